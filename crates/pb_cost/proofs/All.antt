-- The four counts together.
use Rattle.std.proofs.Common.{◌≡◌, None}
use Rattle.pb_core_language.specs.Plain.{Protocol}
use Rattle.pb_cost_laws.specs.Sent.{Counted, Messages, Words, Way, Least, Most}
use Rattle.pb_cost.specs.declared.cost.Cost.{Cost}
use Rattle.pb_cost.specs.Costs.{first_loop, HasFew, IsCounted, IsTold}

all_few : (p : Protocol) → HasFew p Least Messages → HasFew p Most Messages → HasFew p Least Words → HasFew p Most Words → (way : Way) (what : Counted) → HasFew p way what
all_few p a b d e Least Messages = a
all_few p a b d e Most Messages = b
all_few p a b d e Least Words = d
all_few p a b d e Most Words = e

pub all_told : (p : Protocol) (cost : Cost) → first_loop p.body.block ≡ None → IsCounted p Least Messages cost.least_messages.items → IsCounted p Most Messages cost.most_messages.items → IsCounted p Least Words cost.least_words.items → IsCounted p Most Words cost.most_words.items → IsTold p cost
all_told p cost none a b d e = record {
  none = none;
  few = all_few p a.few b.few d.few e.few;
  cost_is = record { least_messages = a.pieces; most_messages = b.pieces; least_words = d.pieces; most_words = e.pieces };
}
