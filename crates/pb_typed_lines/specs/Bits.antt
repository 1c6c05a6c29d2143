-- What the bits of a line spell.
use Rattle.std.specs.Prelude.{ℕ, List, decimal, map}
use Rattle.pb_local.specs.Pieces.{joined}
use Rattle.pb_local.specs.Tables.{kernel_at}
use Rattle.pb_local.specs.Tree.{Program}
use Rattle.pb_ctree.specs.Small as S
use Rattle.pb_ctree.specs.Small.{peer_text, root_text}
use Rattle.pb_types.specs.declared.carried.Carried.{Carried}
use Rattle.pb_typed.specs.Carrying.{name_at, carried_at, buffer_of, data_text, shared}
use Rattle.pb_typed.specs.Calls.{end_text, make_front, make_rest, take_rest, status_text}
use Rattle.pb_typed.specs.Hooks.{message_data, joint_data}
use Rattle.pb_typed_lines.specs.declared.bits.Side.{Side}
use Rattle.pb_typed_lines.specs.declared.bits.Side.TheVariants.{Sent, Received}
use Rattle.pb_typed_lines.specs.declared.bits.Bit.{Bit}
use Rattle.pb_typed_lines.specs.declared.bits.Bit.TheVariants.{Word, Name, Kernel, Number, Rank, Root, End, Makes, Made, Taken, Buffer, Data, Shared, Status, Message, Joint}

abbrev pub side_of : Side → S.Side
side_of Sent = S.outgoing
side_of Received = S.incoming

abbrev pub bit_text : Program → List Carried → Bit → List ℕ
bit_text p t (Word word) = word.now
bit_text p t (Name label) = name_at p label
bit_text p t (Kernel kernel) = (kernel_at p kernel).name
bit_text p t (Number n) = decimal n
bit_text p t (Rank e) = peer_text p e
bit_text p t (Root e) = root_text e
bit_text p t (End e) = end_text e
bit_text p t (Makes label) = make_front (carried_at t label) p label
bit_text p t (Made label) = make_rest (carried_at t label) p label
bit_text p t (Taken label side) = take_rest (carried_at t label) p label (side_of side)
bit_text p t (Buffer label side) = buffer_of (carried_at t label) p label (side_of side)
bit_text p t (Data label side) = data_text p t label (side_of side)
bit_text p t (Shared label) = data_text p t label (shared (carried_at t label))
bit_text p t (Status label) = status_text (carried_at t label)
bit_text p t (Message label side) = message_data (carried_at t label) p label (side_of side)
bit_text p t (Joint label root side) = joint_data (carried_at t label) p label root (side_of side)

abbrev pub bits_text : Program → List Carried → List Bit → List ℕ
bits_text p t bits = joined (map (bit_text p t) bits)
