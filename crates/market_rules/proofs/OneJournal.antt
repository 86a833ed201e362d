-- A journal determines the market after it, and sequences of steps compose.
use Rattle.std.proofs.Common.{◌≡◌, List, [], ◌∷◌, ◌++◌, Result, Ok, Err, refl, sym, subst, ◌∙◌}
use Rattle.flow_orders.specs.Outcomes.{Outcome, BatchRule}
use Rattle.wire_records.specs.Commands.{Command, Answer, Pair}
use Rattle.market_rules.specs.Market.{Market}
use Rattle.wire_records.specs.declared.command.BodyFault.{BodyFault}
use Rattle.wire_records.specs.declared.version.Version.{Version}
use Rattle.market_rules.specs.Step.{ServesRead}
use Rattle.market_rules.specs.Journal.{Step, Follows}
use Rattle.market_rules.proofs.OneStep.{one_market}

-- records that are read in one way
module _ {R : Type 0} (Reads : Version → R → Result Command BodyFault → Type 0) (one_reading : (version : Version) (r : R) (a b : Result Command BodyFault) → Reads version r a → Reads version r b → a ≡ b) where
  module _ (Rule : BatchRule) where
    read_market : (old : Market) (read : Result Command BodyFault) (a : Answer Outcome) (x y : Market) → ServesRead Rule old read a x → ServesRead Rule old read a y → x ≡ y
    read_market old (Ok c) a x y first other = one_market Rule old c a x y first other
    read_market old (Err r) a x y first other = first.1 ∙ sym other.1

    -- the old market, the record and the answer determine the new market
    pub step_market : (old : Market) (asked : R) (a : Answer Outcome) (x y : Market) → Step Reads Rule old asked a x → Step Reads Rule old asked a y → x ≡ y
    step_market old asked a x y first other =
        read_market old first.read a x y first.served (rw (one_reading old.version asked first.read other.read first.encoded other.encoded) other.served)

    -- a valid journal determines the market after it
    pub journal_market : (old : Market) (pairs : List (Pair R Outcome)) (x y : Market) → Follows Reads Rule old pairs x → Follows Reads Rule old pairs y → x ≡ y
    journal_market old [] x y first other = first ∙ sym other
    journal_market old (pair ∷ pairs) x y first other =
        let next = step_market old pair.asked pair.answer first.0 other.0 first.1 other.1 in
        journal_market first.0 pairs x y first.2 (rw next other.2)

    -- sequences of steps compose
    pub follows-append : (old mid new : Market) (pairs more : List (Pair R Outcome)) → Follows Reads Rule old pairs mid → Follows Reads Rule mid more new → Follows Reads Rule old (pairs ++ more) new
    follows-append old mid new [] more first second = subst (λ m. Follows Reads Rule m more new) first second
    follows-append old mid new (pair ∷ pairs) more first second = (first.0, first.1, follows-append first.0 mid new pairs more first.2 second)

    -- a sequence of steps splits at any entry
    pub follows-parts : (old new : Market) (pairs more : List (Pair R Outcome)) → Follows Reads Rule old (pairs ++ more) new → (mid : Market) × Follows Reads Rule old pairs mid × Follows Reads Rule mid more new
    follows-parts old new [] more all = (old, refl, all)
    follows-parts old new (pair ∷ pairs) more all =
        let rest = follows-parts all.0 new pairs more all.2 in
        (rest.0, (all.0, all.1, rest.1), rest.2)
