-- What is known of commands of a line and their answers: canonical ones are admissible, whoever is there stays, and the orders of a ladder are few
-- and are answered without a batch.
use Rattle.std.proofs.Common.{◌≡◌, ℕ, ◌+◌, ◌≤◌, List, [], ◌∷◌, length, map, Option, Some, None, Result, Ok, Err, refl, sym, ap, ◌∙◌, arith}
use Rattle.std.specs.Prelude.{All}
use Rattle.std.proofs.lemmas.List.{length-map, length-append}
use Rattle.std.proofs.lemmas.List.Elements.{All-map}
use Rattle.wire_records.specs.Records.{Record}
use Rattle.wire_records.specs.Commands.{Request, Command, Place, Answer, Plain, Batch, Pair}
use Rattle.wire_records.specs.CommandRecords.{tag_of, record_of}
use Rattle.wire_records.specs.Versions.{IsReadAs}
use Rattle.wire_records.specs.declared.version.Version.{Version}
use Rattle.wire_records.specs.declared.command.BodyFault.{BodyFault}
use Rattle.wire_records.specs.declared.reply.Reply.{Reply}
use Rattle.wire_records.proofs.Bodies.{tag_is}
use Rattle.flow_orders.specs.Outcomes.{Outcome, BatchRule, IsAdmissibleOutcome}
use Rattle.canonical_rule.specs.Canonical.{IsCanonicalOutcome}
use Rattle.curve_ladder.specs.Segments.{segments_of, request_of}
use Rattle.curve_ladder.proofs.SegmentLemmas.{segments_count}
use Rattle.market_rules.specs.Market.{Market, IsConsistent}
use Rattle.market_rules.specs.Step.{ServesRead}
use Rattle.market_rules.proofs.LawProofs.{batch_of}
use Rattle.canonical_journals.proofs.CanonicalIsLegal.{canonical_served_is_admissible}
use Rattle.order_text.specs.Lines.{Asked, Alone, OfLadder, commands_of, LineAsks}
use Rattle.answer_text.specs.declared.header.Recipient.{Recipient}
use Rattle.answer_text.specs.declared.header.Recipient.TheVariants.{Operator, Desk, All as ToAll}
use Rattle.desk_messages.specs.Desks.{Desks, nothing, IsThere, tally_of, with_line}
use Rattle.desk_messages.specs.Messages.{opened_by, with_opened}
use Rattle.desk_messages.proofs.Telling.{told_accounts}
use Rattle.desk_session.specs.Talks.{Talk}
use Rattle.desk_session.specs.Lines.{entry_messages, IsLineBegun}
use Rattle.desk_session.specs.States.{State, Answers}
use Rattle.desk_session.specs.Said.{AsksFor, IsPlacement}
use Rattle.desk_session.proofs.Going.{served_count}
use Rattle.desk_session.proofs.Left.{line_accounts, heard_there}

-- ---- canonical answers

-- a record that was read is answered as the rule of admissible outcomes allows
read_admissible : (m : Market) (read : Result Command BodyFault) (a : Answer Outcome) (n : Market) → IsConsistent m → ServesRead IsCanonicalOutcome m read a n → ServesRead IsAdmissibleOutcome m read a n
read_admissible m (Ok c) a n consistent served = canonical_served_is_admissible m c a n consistent served
read_admissible m (Err why) a n consistent served = served

-- what is answered by the canonical rule is admissible
pub serves_admissible : (old new : State) (sender : Recipient) (line : ℕ) (command : Command) (pair : Pair Record Outcome) → IsConsistent old.market → Answers IsCanonicalOutcome old sender line command pair new
    → Answers IsAdmissibleOutcome old sender line command pair new
serves_admissible old new sender line command pair consistent is = record {
  asked = is.asked;
  step = record {
    read = is.step.read;
    encoded = is.step.encoded;
    served = read_admissible old.market is.step.read pair.answer new.market consistent is.step.served;
  };
  told = is.told;
  counted = is.counted;
}

-- ---- who is there

-- an account that was opened is one more
opened_more : (o : Option ℕ) (d : Desks) → length d.accounts ≤ length (with_opened o d).accounts
opened_more None d = omega arith
opened_more (Some account) d = omega (arith, length-append d.accounts (nothing ∷ []))

-- whoever is there still is if no account leaves
there_on : (old new : Desks) (who : Recipient) → length old.accounts ≤ length new.accounts → IsThere old who → IsThere new who
there_on old new Operator more there = there
there_on old new (Desk account) more there = (there.0, omega (arith, more, there.1))
there_on old new ToAll more there = there

-- the sender of a line whose commands are to be served is there
pub asks_there : (old new : State) (line : List ℕ) (sender : Recipient) (number : ℕ) (asked : Asked) → AsksFor old line sender number asked new → IsThere new.talk.desks sender
asks_there old new line sender number asked asks =
    let same = ap (λ (t : Talk). length t.desks.accounts) asks.talk ∙ line_accounts old.talk.desks sender in
    there_on old.talk.desks new.talk.desks sender (omega (arith, same)) (heard_there old.talk.desks line sender asks.text asks.heard)

-- and whoever is there still is after a command
pub answers_there : (Rule : BatchRule) (old new : State) (sender : Recipient) (line : ℕ) (command : Command) (pair : Pair Record Outcome) (who : Recipient) → Answers Rule old sender line command pair new
    → IsThere old.talk.desks who → IsThere new.talk.desks who
answers_there Rule old new sender line command pair who is there =
    let d = with_opened (opened_by pair.answer) old.talk.desks in
    let same = ap (λ (t : Talk). length t.desks.accounts) is.told ∙ told_accounts d (entry_messages d old.market new.market sender line (old.entries + 1) command pair.answer) in
    there_on old.talk.desks new.talk.desks who (omega (arith, same, opened_more (opened_by pair.answer) old.talk.desks)) there

-- ---- how many commands there are

-- a line asks for 32 commands at most
pub asked_few : (version : Version) (tickers : List (List ℕ)) (text : List ℕ) (asked : Asked) → LineAsks version tickers text asked → length (commands_of asked) ≤ 32
asked_few version tickers text (Alone command) asks = omega arith
asked_few version tickers text (OfLadder commands) asks =
    let l = asks.asks in
    omega (arith, ap length l.commands_are, length-map (map (request_of l.account l.row) (segments_of l.ladder)) (Place None), length-map (segments_of l.ladder) (request_of l.account l.row), (segments_count l.ladder l.lawful).1)

-- so those that were served and the others are 32 at most
pub begun_few : (Rule : BatchRule) (old new : Market) (d later : Desks) (count : ℕ) (line : List ℕ) (sender : Recipient) (next : List Command) (pairs : List (Pair Record Outcome)) (texts : List (List ℕ))
    → (begun : IsLineBegun Rule old d count line sender next pairs texts new later) → (length (commands_of begun.asked) ≤ 32) × (length pairs + length next ≤ 32) × (length texts ≡ length pairs)
begun_few Rule old new d later count line sender next pairs texts begun =
    let few = asked_few old.version old.tickers begun.text begun.asked begun.wished.1 in
    let same = served_count Rule sender ((tally_of d sender).lines + 1) begun.first pairs texts old new (with_line d sender) later count begun.served in
    (few, omega (arith, few, same.0, ap length begun.parts, length-append begun.first next), same.1 ∙ sym same.0)

-- ---- placements

-- all commands of a ladder place orders
pub ladder_places : (version : Version) (tickers : List (List ℕ)) (text : List ℕ) (commands : List Command) → LineAsks version tickers text (OfLadder commands) → All IsPlacement commands
ladder_places version tickers text commands asks =
    let l = asks.asks in
    let requests : List Request = map (request_of l.account l.row) (segments_of l.ladder) in
    let placed : All IsPlacement (map (Place None) requests) = All-map IsPlacement (Place None) requests (λ k d inside. (None, _, refl)) in
    rw l.commands_are placed

-- and so all that is left to do of a line that asks for a ladder
pub asks_places : (old new : State) (line : List ℕ) (sender : Recipient) (number : ℕ) (commands : List Command) → AsksFor old line sender number (OfLadder commands) new → All IsPlacement commands
asks_places old new line sender number commands asks = ladder_places old.market.version old.market.tickers asks.text commands asks.wished.1

-- a placement's record is that of no batch
not_placed : (last : Option ℕ) (request : Request) → tag_of (Place last request) ≡ 9 → ⊥
not_placed None request is = omega (arith, is)
not_placed (Some batch) request is = omega (arith, is)

-- a batch is no plain reply
no_plain : (n : ℕ) (o : Outcome) (r : Reply) → Batch n o ≡ Plain r → ⊥
no_plain n o r e = cc

module _ (Rule : BatchRule) where
  -- a record of a placement is answered without a batch
  read_plain : (m n : Market) (last : Option ℕ) (request : Request) (asked : Record) (read : Result Command BodyFault) (a : Answer Outcome) → asked ≡ record_of (Place last request) → IsReadAs m.version asked read
      → ServesRead Rule m read a n → (reply : Reply) × (a ≡ Plain reply)
  read_plain m n last request asked read (Plain reply) is reads served = (reply, refl)
  read_plain m n last request asked (Err why) (Batch number outcome) is reads served = absurd (no_plain number outcome _ served.0)
  read_plain m n last request asked (Ok c) (Batch number outcome) is reads served =
      let batch = batch_of Rule m c number outcome n served in
      absurd (not_placed last request (sym (ap (λ (r : Record). r.tag) is) ∙ tag_is c asked reads.1 ∙ ap tag_of batch.command_is))

  -- a placement is answered without a batch
  pub placed_plain : (old new : State) (sender : Recipient) (line : ℕ) (command : Command) (pair : Pair Record Outcome) → IsPlacement command → Answers Rule old sender line command pair new → (reply : Reply) × (pair.answer ≡ Plain reply)
  placed_plain old new sender line command pair (last, request, same) is =
      read_plain old.market new.market last request pair.asked is.step.read pair.answer (is.asked ∙ ap record_of same) is.step.encoded is.step.served
