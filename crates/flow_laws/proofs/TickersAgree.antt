-- The tickers by which lines name assets are those of the market that serves their commands.
use Rattle.std.proofs.Common.{◌≡◌, ℕ, List, [], ◌∷◌, ◌<◌, length, take, All, map, refl, sym, ap, subst, ◌∙◌, Option}
use Rattle.std.proofs.lemmas.List.Elements.{All-head, All-tail}
use Rattle.wire_records.specs.Records.{Record}
use Rattle.wire_records.specs.Commands.{Command, Pair}
use Rattle.wire_records.specs.CommandRecords.{record_of, IsCommand}
use Rattle.wire_records.specs.Versions.{IsOfVersion, IsReadAs}
use Rattle.wire_records.specs.declared.version.Version.{Version}
use Rattle.flow_orders.specs.Outcomes.{Outcome, BatchRule}
use Rattle.canonical_rule.specs.Canonical.{IsCanonicalOutcome}
use Rattle.market_rules.specs.Market.{Market, empty_market}
use Rattle.market_rules.specs.Journal.{Follows}
use Rattle.market_rules.proofs.Versions.{step_version}
use Rattle.order_text.specs.Lines.{Leave, Leaves}
use Rattle.order_text.proofs.OneAnswers.{one_table}
use Rattle.line_records.proofs.Saying.{lines_leave}
use Rattle.encode_word.specs.declared.stop.EncodeStop.{EncodeStop}
use Rattle.encode_word.specs.Starts.{known_after, PrecedesLines}
use Rattle.encode_word.specs.Encoding.{EncodesLines}
use Rattle.encode_word.proofs.TickersLeft.{made_tickers, step_tickers}
use Rattle.word_driver.specs.Ended.{Ended}
use Rattle.flow_laws.specs.Laws.{TickersAgree}
use Rattle.flow_laws.proofs.EncodeLaws.{encoded_fit}

-- how a batch may end
module _ (Rule : BatchRule) where
  -- equal lists have the same first record and the same rest
  heads : (a b : Record) (x y : List Record) → a ∷ x ≡ b ∷ y → (a ≡ b) × (x ≡ y)
  heads a b x y e = (cc, cc)

  -- steps of commands' records lead to the tickers that the commands leave
  pub steps_tickers : (version : Version) (commands : List Command) (after : List (List ℕ)) (m market : Market) (pairs : List (Pair Record Outcome)) → m.version ≡ version → Leave version m.tickers commands after → All IsCommand commands → All (IsOfVersion version) commands
      → map (λ (pair : Pair Record Outcome). pair.asked) pairs ≡ map record_of commands → Follows IsReadAs Rule m pairs market → market.tickers ≡ after
  steps_tickers version [] after m market [] of leaves fit own asked steps = made_tickers market m steps ∙ sym leaves
  steps_tickers version [] after m market (pair ∷ pairs) of leaves fit own asked steps = absurd cc
  steps_tickers version (command ∷ commands) after m market [] of leaves fit own asked steps = absurd cc
  steps_tickers version (command ∷ commands) after m market (pair ∷ pairs) of leaves fit own asked steps =
      let both = heads pair.asked (record_of command) (map (λ (p : Pair Record Outcome). p.asked) pairs) (map record_of commands) asked in
      let left = step_tickers Rule m command pair.asked pair.answer steps.0 (subst (λ (v : Version). IsOfVersion v command) (sym of) (All-head (IsOfVersion version) command commands own)) (record { fits = All-head IsCommand command commands fit; encoded = both.0 }) steps.1 in
      let same : leaves.0 ≡ steps.0.tickers = one_table version m.tickers (command ∷ []) leaves.0 steps.0.tickers (leaves.0, leaves.1, refl) (steps.0.tickers, subst (λ v. Leaves v m.tickers command steps.0.tickers) of left, refl) in
      steps_tickers version commands after steps.0 market pairs (step_version Rule IsReadAs m pair.asked pair.answer steps.0 steps.1 ∙ of) (subst (λ tickers. Leave version tickers commands after) same leaves.2) (All-tail IsCommand command commands fit) (All-tail (IsOfVersion version) command commands own) both.1 steps.2

-- of what lines ask for, from the tickers on that are known before them
lines_agree : (version : Version) (More : Type 0) (bytes text : List ℕ) (ended : Ended EncodeStop) (encoded : EncodesLines version More bytes ended text) (m market : Market) (pairs : List (Pair Record Outcome)) → m.version ≡ version → m.tickers ≡ known_after encoded.start
    → map (λ (pair : Pair Record Outcome). pair.asked) pairs ≡ map record_of encoded.comes.commands → Follows IsReadAs IsCanonicalOutcome m pairs market → market.tickers ≡ encoded.comes.reads.tickers
lines_agree version More bytes text ended encoded m market pairs of known asked steps =
    let reads = encoded.comes.reads in
    let cs = encoded.comes.commands in
    let fit = encoded_fit version More bytes text ended encoded in
    let leaves = lines_leave version reads.read cs (known_after encoded.start) reads.tickers reads.say in
    steps_tickers IsCanonicalOutcome version cs reads.tickers m market pairs of (subst (λ (tickers : List (List ℕ)). Leave version tickers cs reads.tickers) (sym known) leaves) fit.0 fit.2 asked steps

pub tickers_agree : TickersAgree
tickers_agree = record {
  ran = λ version limit bytes text journal ended encoded market plain journals.
      lines_agree version (limit < length bytes) (take limit bytes) text ended encoded (empty_market version) market journals.pairs refl (sym (ap known_after plain)) journals.journal_of.asked journals.journal_of.steps;
  resumed = λ version limit bytes text entries ended encoded old market kept continues.
      let before = subst (λ (start : Option Market). PrecedesLines version (limit < length bytes) (take limit bytes) start encoded.lines) kept encoded.begins in
      lines_agree version (limit < length bytes) (take limit bytes) text ended encoded old market continues.pairs before.1 (sym (ap known_after kept)) continues.answered.asked continues.answered.steps;
}
