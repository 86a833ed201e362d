-- A statement does what the clauses of the program say: it results in the lines that are carried forward, the text of a view, and the
-- last lines.
use Rattle.std.proofs.Common.{◌≡◌, ◌<◌, ◌+◌, ℕ, Bool, false, List, [], ◌∷◌, ◌++◌, All, map, Result, Ok, Err, if◌then◌else◌, length, take, refl, sym, ap, ◌∙◌, subst, inl, inr, append-nil, append_assoc, arith}
use Rattle.std.proofs.lemmas.Bool.{false_from_ne_true}
use Rattle.std.proofs.lemmas.List.Elements.{All-nil, All-cons, All-head, All-tail}
use Rattle.wire_records.specs.Records.{Record}
use Rattle.wire_records.specs.Commands.{Command, Answer, Pair}
use Rattle.wire_records.specs.Versions.{IsReadAs}
use Rattle.wire_records.specs.Grammars.{BeginsWith, encode_all}
use Rattle.wire_records.specs.Reading.{End}
use Rattle.wire_records.specs.Reading as reading
use Rattle.wire_records.specs.declared.version.Version.{Version}
use Rattle.wire_records.specs.declared.command.BodyFault.{BodyFault}
use Rattle.wire_records.proofs.Readings.{reading_unique}
use Rattle.flow_accounts.specs.Balances.{IsAccount}
use Rattle.flow_orders.specs.Outcomes.{Outcome, IsAdmissibleOutcome}
use Rattle.journal_records.specs.Pairs.{IsPair}
use Rattle.journal_records.specs.Formats.{journals, records_of}
use Rattle.journal_records.proofs.Encoded.{answer_unique}
use Rattle.market_rules.specs.Market.{Market, IsConsistent}
use Rattle.market_rules.specs.Journal.{Follows}
use Rattle.market_rules.proofs.LawProofs.{steps_keep_consistency}
use Rattle.market_rules.proofs.Versions.{step_version}
use Rattle.market_snapshot.specs.Checkpoints.{HasCheckpointMagic}
use Rattle.market_history.specs.Histories.{Start, Empty, Kept, CanStart, market_of, starts}
use Rattle.market_history.proofs.Starting.{kept_magic}
use Rattle.statement_rules.specs.Views.{Event, Sees, seen, is_there}
use Rattle.statement_rules.specs.Holdings.{Holding, IsHeld, after_all, held_in}
use Rattle.statement_rules.specs.Statements.{lines_from, end_lines, carried_lines, text_from, statement_from}
use Rattle.statement_rules.proofs.Told.{told, there_is, is_account}
use Rattle.statement_rules.proofs.ViewLaws.{views_tell_holdings}
use Rattle.statement_rules.proofs.Texts.{lines_both}
use Rattle.statement_rules.proofs.FromMarkets.{held_there, statements_join}
use Rattle.account_statement.specs.Telling.{AllocatesCopy}
use Rattle.word_driver.specs.declared.fault.Fault.TheVariants as word
use Rattle.word_driver.specs.Ended.{Ended}
use Rattle.word_driver.specs.Word.{Goes, Halts, ComesOn, LacksOn}
use Rattle.journal_words.specs.Watching.{Watched}
use Rattle.history_words.specs.declared.stop.HistoryStop.{HistoryStop}
use Rattle.history_words.specs.declared.stop.HistoryStop.TheVariants as stop
use Rattle.history_words.specs.Histories.{Beginning, at_first, following, over_history_from}
use Rattle.statement_word.specs.declared.no_statement.NoStatement.{NoStatement}
use Rattle.statement_word.specs.declared.no_statement.NoStatement.TheVariants as why
use Rattle.statement_word.specs.Stating.{Stated, TellsOwn, statement, statement_begins}
use Rattle.statement_word.proofs.Held.{lines_are, ends_are}
use Rattle.statement_word.proofs.StatementLaws.{statement_is_exact}
use Rattle.flow_exchange.specs.declared.form.Form.TheVariants.{Statement}
use Rattle.exit_status.specs.declared.status.Status.TheVariants as answer
use Rattle.flow_exchange.specs.Statuses.{ended_status}
use Rattle.flow_exchange.specs.Private.{no_statement}
use Rattle.flow_exchange.specs.Stating.{statement_status, States, AreSeen, StatesTo, StatesShort}
use Rattle.flow_exchange.proofs.HistoryOf.{history_of, makes_by, consistent_start, judged_all, judged_some, at_pair}
use Rattle.exit_status.proofs.Own.{IsOwn}
use Rattle.flow_exchange.proofs.Words.{Nothing, IsForm, history_form}

module _ (account : ℕ) where
  -- the account, with the market before the next entry
  abbrev stated : Market → Stated
  stated m = record { account = account; market = m }

  -- What a statement has written of valid entries: the lines of what the account sees of them, for any holding that it may have at the start.
  record AreTold (start new : Watched Stated) (units : List (Record × Record)) (text : List ℕ) : Type 0 where
    legal : List (Pair Record Outcome)
    parts : units ≡ map records_of legal
    each : All IsPair legal
    steps : Follows IsReadAs IsAdmissibleOutcome start.market legal new.market
    pairs : new.pairs ≡ start.pairs + length legal
    consistent : IsConsistent new.market
    last : new.seen ≡ stated new.market
    view : List Event
    sees : Sees account start.market legal view new.market
    lines : (h : Holding) → IsHeld account start.market h → text ≡ lines_from h view

  are_told : (start new : Watched Stated) (units : List (Record × Record)) (text : List ℕ) → IsConsistent start.market → start.seen ≡ stated start.market → All journals.units.IsLawful units → Goes statement start units new text
      → AreTold start new units text
  are_told start new [] text consistent is each goes =
      let market : new.market ≡ start.market = ap (λ (s : Watched Stated). s.market) goes.0 in
      record {
        legal = [];
        parts = refl;
        each = All-nil IsPair;
        steps = market;
        pairs = rw goes.0 (omega arith);
        consistent = subst IsConsistent (sym market) consistent;
        last = ap (λ (s : Watched Stated). s.seen) goes.0 ∙ is ∙ ap stated (sym market);
        view = [];
        sees = (refl, market);
        lines = λ h held. goes.1;
      }
  are_told start new (unit ∷ units) text consistent is each goes =
      let next = goes.0 in
      let one = goes.3 in
      let step = one.legal.step in
      let lawful = All-head journals.units.IsLawful unit units each in
      let consistent_next = (steps_keep_consistency.1 start.market unit.0 one.legal.answer next.market consistent step).0 in
      let next_is : next.seen ≡ stated next.market = one.sees.0 ∙ ap (λ (s : Stated). record { account = s.account; market = next.market }) is in
      let rest = are_told next new units goes.2 consistent_next next_is (All-tail journals.units.IsLawful unit units each) goes.4 in
      let pair : Pair Record Outcome = record { asked = unit.0; answer = one.legal.answer } in
      let here = seen account start.market step.read one.legal.answer in
      let own : TellsOwn account next.market.version start.market unit goes.1 = subst (λ (s : Stated). TellsOwn s.account next.market.version s.market unit goes.1) is one.sees.1 in
      let version : next.market.version ≡ start.market.version = step_version IsAdmissibleOutcome IsReadAs start.market unit.0 one.legal.answer next.market step in
      let read : own.read ≡ step.read = reading_unique start.market.version unit.0 own.read step.read (subst (λ (v : Version). IsReadAs v unit.0 own.read) version own.reads) step.encoded in
      let same : own.answer ≡ one.legal.answer = answer_unique own.answer one.legal.answer own.encoded.fits one.legal.encoded.fits (sym own.encoded.encoded ∙ one.legal.encoded.encoded) in
      record {
        legal = pair ∷ rest.legal;
        parts = ap (λ xs. unit ∷ xs) rest.parts ∙ ap (λ (r : Record). (unit.0, r) ∷ map records_of rest.legal) one.legal.encoded.encoded;
        each = All-cons IsPair pair rest.legal (record { asked = lawful.0; answer = one.legal.encoded.fits; answered = rw (← one.legal.encoded.encoded) lawful.1 }) rest.each;
        steps = (next.market, step, rest.steps);
        pairs = omega (arith, rest.pairs, one.counted);
        consistent = rest.consistent;
        last = rest.last;
        view = here ++ rest.view;
        sees = (next.market, step.read, rest.view, step.encoded, step.served, rest.sees, refl);
        lines = λ h held.
            let first : goes.1 ≡ lines_from h here =
            own.lines ∙ ap (λ (r : Result Command BodyFault). lines_from (held_in account start.market) (seen account start.market r own.answer)) read
            ∙ ap (λ (w : Answer Outcome). lines_from (held_in account start.market) (seen account start.market step.read w)) same ∙ sym (lines_are account start.market h held step.read one.legal.answer)
            in
            let following : goes.2 ≡ lines_from (after_all h here) rest.view = rest.lines (after_all h here) (told account start.market h consistent held step.read one.legal.answer next.market step.served) in
            goes.5 ∙ ap (λ (xs : List ℕ). xs ++ goes.2) first ∙ ap (λ (xs : List ℕ). lines_from h here ++ xs) following ∙ sym (lines_both here h rest.view);
      }

  -- ---- how it begins

  abbrev begun : Beginning (Watched Stated)
  begun = at_first (statement_begins account)

  status_there : (m : Market) → IsAccount m.balances account → answer.Done ≡ (if is_there m account then answer.Done else answer.NoAccount account)
  status_there m there = ap (λ (b : Bool). if b then answer.Done else answer.NoAccount account) (sym (there_is m account there))

  not_there : (m : Market) → (IsAccount m.balances account → ⊥) → false ≡ is_there m account
  not_there m absent = sym (false_from_ne_true (is_there m account) (λ there. absent (is_account m account there)))

  status_absent : (m : Market) → (IsAccount m.balances account → ⊥) → answer.NoAccount account ≡ (if is_there m account then answer.Done else answer.NoAccount account)
  status_absent m absent = ap (λ (b : Bool). if b then answer.Done else answer.NoAccount account) (not_there m absent)

  text_there : (m : Market) (text : List ℕ) → IsAccount m.balances account → text ≡ (if is_there m account then text else [])
  text_there m text there = ap (λ (b : Bool). if b then text else []) (sym (there_is m account there))

  text_absent : (m : Market) (text : List ℕ) → (IsAccount m.balances account → ⊥) → [] ≡ (if is_there m account then text else [])
  text_absent m text absent = ap (λ (b : Bool). if b then text else []) (not_there m absent)

  not_named : (n k : ℕ) → why.NoAccount n ≡ why.Rejected k → ⊥
  not_named n k e = cc

  not_rejected : (n k : ℕ) → why.Rejected n ≡ why.NoAccount k → ⊥
  not_rejected n k e = cc

  rejected_as : (n k : ℕ) → why.Rejected n ≡ why.Rejected k → n ≡ k
  rejected_as n k e = cc

  named_as : (n k : ℕ) → why.NoAccount n ≡ why.NoAccount k → n ≡ k
  named_as n k e = cc

  -- from the market that a history begins in
  module _ (start : Start) (lawful : CanStart start) where
    abbrev market : Market
    market = market_of start

    abbrev first : Watched Stated
    first = begun.starts market

    from_first : (new : Watched Stated) (units : List (Record × Record)) (text : List ℕ) → All journals.units.IsLawful units → Goes statement first units new text → AreTold first new units text
    from_first new units text each goes = are_told first new units text (consistent_start start lawful) refl each goes

    -- the text of the units is that of their view
    view_is : (new : Watched Stated) (units : List (Record × Record)) (text : List ℕ) (are : AreTold first new units text) → text ≡ lines_from (held_in account market) are.view
    view_is new units text are = are.lines (held_in account market) (held_there account market)

    -- if nothing is written after them, that is the whole text
    all_is : (text rest so_far last : List ℕ) (view : List Event) → text ≡ carried_lines account market ++ rest → rest ≡ so_far ++ last → last ≡ [] → so_far ≡ lines_from (held_in account market) view → text ≡ text_from account market view
    all_is text rest so_far last view is parts none so = is ∙ ap (λ xs. carried_lines account market ++ xs) (parts ∙ ap (λ xs. so_far ++ xs) none ∙ append-nil so_far ∙ so)

    -- the whole statement
    whole_is : (text rest so_far last : List ℕ) (view : List Event) → text ≡ carried_lines account market ++ rest → rest ≡ so_far ++ last → last ≡ end_lines (after_all (held_in account market) view) → so_far ≡ lines_from (held_in account market) view
        → text ≡ statement_from account market view
    whole_is text rest so_far last view is parts ends so =
        is ∙ ap (λ xs. carried_lines account market ++ xs) (parts ∙ ap (λ xs. so_far ++ xs) ends ∙ ap (λ xs. xs ++ end_lines (after_all (held_in account market) view)) so)
        ∙ sym (append_assoc (carried_lines account market) (lines_from (held_in account market) view) (end_lines (after_all (held_in account market) view)))

    -- the last lines are those of what the view shows
    ends_as_told : (new : Watched Stated) (units : List (Record × Record)) (text last : List ℕ) (are : AreTold first new units text)
        → IsAccount new.market.balances new.seen.account → last ≡ end_lines (held_in new.seen.account new.market) → IsAccount new.market.balances account × (last ≡ end_lines (after_all (held_in account market) are.view))
    ends_as_told new units text last are there is =
        let named : new.seen.account ≡ account = ap (λ (s : Stated). s.account) are.last in
        let here : IsAccount new.market.balances account = subst (λ (k : ℕ). IsAccount new.market.balances k) named there in
        let held = views_tell_holdings.steps account market are.legal are.view new.market (held_in account market) (consistent_start start lawful) (held_there account market) are.sees in
        (here, is ∙ ap (λ (k : ℕ). end_lines (held_in k new.market)) named ∙ sym (ends_are account new.market (after_all (held_in account market) are.view) are.consistent here held))

  -- ---- how it ends

  module _ (limit : ℕ) (bytes text rest : List ℕ) (start : Start) (body : List ℕ) (begins : BeginsWith starts (take limit bytes) start body) (parts : text ≡ carried_lines account (market_of start) ++ rest) where
    abbrev More : Type 0
    More = limit < length bytes

    abbrev size : ℕ
    size = length (starts.encode start)

    abbrev at_start : Watched Stated
    at_start = begun.starts (market_of start)

    -- an entry is invalid
    stopped : (number : ℕ) → (way : ComesOn statement More size body at_start (Err (word.Stopped (why.Rejected number))) rest)
        → Halts statement More (size + length (encode_all journals.units way.units)) way.rest way.state (Err (word.Stopped (why.Rejected number))) way.last → StatesTo account limit bytes (answer.Rejected number) text
    stopped number way (inl (bad, more, prefix, stops)) =
        let are = from_first start begins.0 way.state way.units way.so_far way.passes.each way.passes.goes in
        let on = judged_some limit bytes body start begins way.units way.rest way.passes.whole way.passes.each are.legal are.parts are.each way.state.market are.steps bad more prefix stops.0 in
        makes_by (statement_status account limit) (States account) limit bytes (answer.Rejected number) text (history_of start are.legal way.state.market (bad ∷ on.0) on.1)
        on.2
        (ap (λ (k : ℕ). answer.Rejected k) (rejected_as number (way.state.pairs + 1) stops.1.0 ∙ omega (arith, are.pairs)))
        (record {
          view = are.view;
          sees = are.sees;
          writes = all_is start begins.0 text rest way.so_far way.last are.view parts way.writes stops.1.1 (view_is start begins.0 way.state way.units way.so_far are);
        })
    stopped number way (inr at) = absurd (not_rejected number way.state.seen.account at.1.1)

    -- the history is valid, and there is no such account
    absent : (number : ℕ) → (way : ComesOn statement More size body at_start (Err (word.Stopped (why.NoAccount number))) rest)
        → Halts statement More (size + length (encode_all journals.units way.units)) way.rest way.state (Err (word.Stopped (why.NoAccount number))) way.last → StatesTo account limit bytes (answer.NoAccount number) text
    absent number way (inl (bad, more, prefix, stops)) = absurd (not_named number (way.state.pairs + 1) stops.1.0)
    absent number way (inr at) =
        let are = from_first start begins.0 way.state way.units way.so_far way.passes.each way.passes.goes in
        let named : way.state.seen.account ≡ account = ap (λ (s : Stated). s.account) are.last in
        let none : IsAccount way.state.market.balances account → ⊥ = λ there. at.1.0 (subst (λ (k : ℕ). IsAccount way.state.market.balances k) (sym named) there) in
        let number_is : number ≡ account = named_as number way.state.seen.account at.1.1 ∙ named in
        makes_by (statement_status account limit) (States account) limit bytes (answer.NoAccount number) text (history_of start are.legal way.state.market [] End)
        (judged_all limit bytes body start begins way.units way.rest way.passes.whole way.passes.each are.legal are.parts are.each way.state.market are.steps End at.0.0 at.0.1)
        (ap (λ (k : ℕ). answer.NoAccount k) number_is ∙ status_absent way.state.market none)
        (record {
          view = are.view;
          sees = are.sees;
          writes = all_is start begins.0 text rest way.so_far way.last are.view parts way.writes at.1.2 (view_is start begins.0 way.state way.units way.so_far are)
              ∙ (statements_join.absent account (market_of start) way.state.market are.legal are.view (consistent_start start begins.0) are.sees none).0
              ∙ text_absent way.state.market (statement_from account (market_of start) are.view) none;
        })

    statement_on : (inner : Ended NoStatement) → ComesOn statement More size body at_start inner rest → StatesTo account limit bytes (ended_status limit no_statement (following inner)) text
    statement_on (Ok done) way =
        let are = from_first start begins.0 way.state way.units way.so_far way.passes.each way.passes.goes in
        let ends = ends_as_told start begins.0 way.state way.units way.so_far way.last are way.halts.1.0 way.halts.1.1 in
        makes_by (statement_status account limit) (States account) limit bytes answer.Done text (history_of start are.legal way.state.market [] End)
        (judged_all limit bytes body start begins way.units way.rest way.passes.whole way.passes.each are.legal are.parts are.each way.state.market are.steps End way.halts.0.0 way.halts.0.1)
        (status_there way.state.market ends.0)
        (record {
          view = are.view;
          sees = are.sees;
          writes = whole_is start begins.0 text rest way.so_far way.last are.view parts way.writes ends.1 (view_is start begins.0 way.state way.units way.so_far are) ∙ text_there way.state.market (statement_from account (market_of start) are.view) ends.0;
        })
    statement_on (Err (word.Torn n)) way =
        let are = from_first start begins.0 way.state way.units way.so_far way.passes.each way.passes.goes in
        makes_by (statement_status account limit) (States account) limit bytes (answer.Torn n) text (history_of start are.legal way.state.market [] (reading.Torn n))
        (judged_all limit bytes body start begins way.units way.rest way.passes.whole way.passes.each are.legal are.parts are.each way.state.market are.steps (reading.Torn n) way.halts.0.0 way.halts.0.1)
        refl
        (record {
          view = are.view;
          sees = are.sees;
          writes = all_is start begins.0 text rest way.so_far way.last are.view parts way.writes way.halts.1 (view_is start begins.0 way.state way.units way.so_far are);
        })
    statement_on (Err word.TooLong) way =
        let are = from_first start begins.0 way.state way.units way.so_far way.passes.each way.passes.goes in
        makes_by (statement_status account limit) (States account) limit bytes (answer.TooLong limit) text (history_of start are.legal way.state.market [] reading.TooLong)
        (judged_all limit bytes body start begins way.units way.rest way.passes.whole way.passes.each are.legal are.parts are.each way.state.market are.steps reading.TooLong way.halts.0.0 way.halts.0.1)
        refl
        (record {
          view = are.view;
          sees = are.sees;
          writes = all_is start begins.0 text rest way.so_far way.last are.view parts way.writes way.halts.1 (view_is start begins.0 way.state way.units way.so_far are);
        })
    statement_on (Err (word.Stopped (why.Rejected number))) way = stopped number way way.halts
    statement_on (Err (word.Stopped (why.NoAccount number))) way = absent number way way.halts
    statement_on (Err word.NotFlow) way = absurd way.halts
    statement_on (Err word.Read) way = absurd way.halts
    statement_on (Err word.Write) way = absurd way.halts
    statement_on (Err word.Memory) way = absurd way.halts

    -- ---- where memory may run out

    -- the text so far as that of what the account sees
    are_seen : (new : Watched Stated) (units : List (Record × Record)) (are : AreTold at_start new units rest) → AreSeen account start are.legal new.market text
    are_seen new units are = record {
      view = are.view;
      sees = are.sees;
      writes = all_is start begins.0 text rest rest [] are.view parts (sym (append-nil rest)) refl (view_is start begins.0 new units rest are);
    }

    lacks_on : LacksOn statement More size body at_start rest → StatesShort account limit bytes text
    lacks_on way =
        let are = from_first start begins.0 way.state way.units rest way.passes.each way.passes.goes in
        let so = are_seen way.state way.units are in
        elim way.allocates [
          | inl (next, more, prefix, allocates) ↦
              let at = at_pair limit bytes body start begins way.units way.rest way.passes.whole way.passes.each are.legal are.parts are.each way.state.market are.steps next more prefix in
              elim allocates [
                | inl want ↦ inr (inl (start, are.legal, way.state.market, next, at, inl want, so))
                | inr other ↦ elim other [ inl legal ↦ inr (inl (start, are.legal, way.state.market, next, at, inr (legal.0, legal.1), so)) | inr not_legal ↦ absurd not_legal.1 ]
              ]
          | inr end ↦
              let is = judged_all limit bytes body start begins way.units way.rest way.passes.whole way.passes.each are.legal are.parts are.each way.state.market are.steps End end.0.0 end.0.1 in
              let there = subst (λ (k : ℕ). IsAccount way.state.market.balances k) (ap (λ (s : Stated). s.account) are.last) end.1 in
              inr (inr (start, are.legal, way.state.market, record { is = is; there = there }, so))
        ]

  to : (limit : ℕ) (bytes : List ℕ) (ended : Ended (HistoryStop NoStatement)) (text : List ℕ) → (over_history_from statement begun).Comes limit bytes ended text → StatesTo account limit bytes (ended_status limit no_statement ended) text
  to limit bytes ended text (inl other) = rw other.1 (inl (inl (other.0, refl), other.2))
  to limit bytes ended text (inr (inl unsound)) = rw unsound.1 (inl (inr (unsound.0, refl), unsound.2))
  to limit bytes ended text (inr (inr (start, body, rest, begins, parts, inner, way, is))) = rw is (statement_on limit bytes text rest start body begins parts inner way)

  -- copying what the account has in the market that a history begins in may allocate only if the history begins with a checkpoint
  copies : (start : Start) (bytes body : List ℕ) → BeginsWith starts bytes start body → AllocatesCopy account (market_of start) → HasCheckpointMagic bytes
  copies (Empty version) bytes body begins (inl some) = absurd (omega (arith, some))
  copies (Empty version) bytes body begins (inr there) = absurd (omega (arith, there.0, there.1))
  copies (Kept market) bytes body begins allocates = kept_magic market bytes body begins.1

  out : (limit : ℕ) (bytes : List ℕ) (text : List ℕ) → (over_history_from statement begun).Lacks limit bytes text → StatesShort account limit bytes text
  out limit bytes text (inl lacks) = inl lacks
  out limit bytes text (inr (inl (start, body, begins, allocates, none))) = inl (copies start (take limit bytes) body begins allocates, none)
  out limit bytes text (inr (inr (start, body, rest, begins, parts, way))) = lacks_on limit bytes text rest start body begins parts way

  owns : (reason : HistoryStop NoStatement) → IsOwn (no_statement reason)
  owns (stop.AtPairs (why.Rejected n)) = tt
  owns (stop.AtPairs (why.NoAccount n)) = tt
  owns stop.NoCheckpoint = tt

  pub statement_form : IsForm (over_history_from statement begun) (Statement account) no_statement Nothing
  statement_form = history_form statement begun statement_is_exact (Statement account) no_statement to (λ limit bytes n text more. more) out owns (λ limit. refl) (λ bytes. refl)
