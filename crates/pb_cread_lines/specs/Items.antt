-- Which line an item is.
use Rattle.pb_ctree.specs.Lines as L
use Rattle.pb_ctree.specs.Small as S
use Rattle.pb_cread_lines.specs.declared.item.Item.{Item}
use Rattle.pb_cread_lines.specs.declared.item.Item.TheVariants.{Close, ElseOpen, IfOpen, ElseIfOpen, ForOpen, OwnIs, LoopOpen, Goto, Makes, RootMakes, Takes, RootTakes, Sends, Receives, Barrier, Broadcasts, Reduces, Allreduces, Calls, Chooses, Probe, TestOpen, ElseTestOpen, Picks, Aborts, PickOpen, ElsePickOpen}
use Rattle.pb_cread_lines.specs.declared.item.Side.{Side}
use Rattle.pb_cread_lines.specs.declared.item.Side.TheVariants.{Outgoing, Incoming}

abbrev pub side_of : Side → S.Side
side_of Outgoing = S.outgoing
side_of Incoming = S.incoming

abbrev pub item_of : Item → L.Item
item_of Close = L.close
item_of ElseOpen = L.else_open
item_of (IfOpen guards) = L.if_open guards
item_of (ElseIfOpen guards) = L.else_if_open guards
item_of (ForOpen low high) = L.for_open low high
item_of (OwnIs off) = L.own_is off
item_of (LoopOpen id) = L.loop_open id
item_of (Goto id) = L.goto id
item_of (Makes label) = L.makes label
item_of (RootMakes root label) = L.root_makes root label
item_of (Takes label side) = L.takes label (side_of side)
item_of (RootTakes root label) = L.root_takes root label
item_of (Sends label to) = L.mpi_send label to
item_of (Receives label from) = L.mpi_recv label from
item_of Barrier = L.mpi_barrier
item_of (Broadcasts label root) = L.mpi_bcast label root
item_of (Reduces label op root) = L.mpi_reduce label op root
item_of (Allreduces label op) = L.mpi_allreduce label op
item_of (Calls kernel) = L.calls kernel
item_of (Chooses kernel) = L.chooses kernel
item_of (Probe from) = L.probe from
item_of (TestOpen label guards) = L.test_open label guards
item_of (ElseTestOpen label guards) = L.else_test_open label guards
item_of (Picks branch) = L.picks branch
item_of Aborts = L.aborts
item_of (PickOpen branch) = L.pick_open branch
item_of (ElsePickOpen branch) = L.else_pick_open branch
