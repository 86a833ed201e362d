-- How a valid journal is opened, and outputs that gained nothing.
use Rattle.std.proofs.Common.{◌≡◌, [], sym, subst}
use Rattle.flow_io.proofs.Growth.{Grows-nothing}
use Rattle.flow_io.specs.Streams.{Grows}
use Rattle.market_rules.specs.Market.{Market}
use Rattle.market_history.specs.Histories.{Start}
use Rattle.journal_keeping.specs.Openings.{Opening, Legal}
use Rattle.journal_keeping.specs.Outputs.{Output}
use Rattle.kept_laws.specs.Laws.{GainAlike}
use Rattle.kept_laws.proofs.Promised.{Pairs}

-- a valid journal is opened as itself
pub legal_is : (v w : Start) (p q : Pairs) (m n : Market) → ◌≡◌ {A = Opening} (Legal v p m) (Legal w q n) → (v ≡ w) × (p ≡ q) × (m ≡ n)
legal_is v w p q m n e = (cc, cc, cc)

pub gained_nothing : (out later : Output) → later ≡ out → Grows out.held later.held []
gained_nothing out later same = subst (λ (o : Output). Grows out.held o.held []) (sym same) (Grows-nothing out.held)

pub nothing_alike : (out later before after : Output) → later ≡ out → after ≡ before → GainAlike out later before after
nothing_alike out later before after a b = ([], gained_nothing out later a, gained_nothing before after b)
