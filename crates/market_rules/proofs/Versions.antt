-- What holds of versions, and that a step keeps the market's.
use Rattle.std.proofs.Common.{◌≡◌, ◌≢◌, ◌≤◌, List, [], ◌∷◌, Option, Some, None, Result, Ok, Err, refl, ap, ◌∙◌, arith}
use Rattle.wire_records.specs.Commands.{Command, RunBatch, Answer, Pair}
use Rattle.wire_records.specs.declared.command.BodyFault.{BodyFault}
use Rattle.wire_records.specs.declared.reply.Refusal.{Refusal}
use Rattle.wire_records.specs.declared.version.Version.{Version}
use Rattle.wire_records.specs.declared.version.Version.TheVariants.{One}
use Rattle.wire_records.specs.Versions.{most_tag}
use Rattle.flow_orders.specs.Outcomes.{Outcome, BatchRule, Cleared, Skipped}
use Rattle.market_rules.specs.Market.{Market, parts_of}
use Rattle.market_rules.specs.Step.{Accepts, Serves, ServesRead, after_batch}
use Rattle.market_rules.proofs.ByFirst.{Answers}
use Rattle.market_rules.specs.Journal.{Step, Follows}

-- a version with tags above 9 isn't One
pub not_one : (version : Version) → 10 ≤ most_tag version → version ≢ One
not_one version most one = let few = ap most_tag one in omega (arith, most, few)

-- moves end by one part of a unit at least, and by 256 at most
pub some_parts : (version : Version) → 1 ≤ parts_of version
some_parts One = omega arith
some_parts version = omega arith

pub few_parts : (version : Version) → parts_of version ≤ 256
few_parts One = omega arith
few_parts version = omega arith

batch_version : (m : Market) (o : Outcome) → (after_batch m o).version ≡ m.version
batch_version m (Cleared c) = refl
batch_version m (Skipped s) = refl

module _ (Rule : BatchRule) where
  accepted_version : (m : Market) (c : Command) (a : Answer Outcome) (n : Market) → Accepts Rule m c a n → n.version ≡ m.version
  accepted_version m (RunBatch budget) a n accepts = ap (λ (x : Market). x.version) accepts.2.1 ∙ batch_version m accepts.0
  accepted_version m command a n accepts = ap (λ (x : Market). x.version) accepts.1

  answered_version : (m : Market) (c : Command) (first : Option Refusal) (a : Answer Outcome) (n : Market) → Answers Rule m c first a n → n.version ≡ m.version
  answered_version m c (Some refusal) a n answers = ap (λ (x : Market). x.version) answers.1
  answered_version m c None a n answers = accepted_version m c a n answers

  -- a command that is served keeps the version
  pub served_version : (m : Market) (c : Command) (a : Answer Outcome) (n : Market) → Serves Rule m c a n → n.version ≡ m.version
  served_version m c a n served = answered_version m c served.first a n served.answered

  read_version : (m : Market) (read : Result Command BodyFault) (a : Answer Outcome) (n : Market) → ServesRead Rule m read a n → n.version ≡ m.version
  read_version m (Ok c) a n served = served_version m c a n served
  read_version m (Err why) a n served = ap (λ (x : Market). x.version) served.1

  module _ {R : Type 0} (Reads : Version → R → Result Command BodyFault → Type 0) where
    pub step_version : (m : Market) (asked : R) (a : Answer Outcome) (n : Market) → Step Reads Rule m asked a n → n.version ≡ m.version
    step_version m asked a n step = read_version m step.read a n step.served

    pub follows_version : (m : Market) (pairs : List (Pair R Outcome)) (n : Market) → Follows Reads Rule m pairs n → n.version ≡ m.version
    follows_version m [] n follows = ap (λ (x : Market). x.version) follows
    follows_version m (pair ∷ pairs) n follows = follows_version follows.0 pairs n follows.2 ∙ step_version m pair.asked pair.answer follows.0 follows.1
