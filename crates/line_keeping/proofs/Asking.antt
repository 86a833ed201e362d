-- A line asks for one thing in a market, and its commands leave the tickers of the market after them.
use Rattle.std.proofs.Common.{◌≡◌, ℕ, ◌+◌, List, [], ◌∷◌, All, refl, ap, sym, subst, ◌∙◌}
use Rattle.std.proofs.lemmas.List.Elements.{All-head, All-tail}
use Rattle.wire_records.specs.Commands.{Command}
use Rattle.wire_records.specs.CommandRecords.{IsCommand}
use Rattle.wire_records.specs.Versions.{IsOfVersion, IsReadAs}
use Rattle.wire_records.specs.declared.version.Version.{Version}
use Rattle.canonical_rule.specs.Canonical.{IsCanonicalOutcome}
use Rattle.market_rules.specs.Market.{Market}
use Rattle.market_rules.proofs.Versions.{served_version, step_version}
use Rattle.canonical_journals.proofs.CanonicalServed.{served_is_there}
use Rattle.order_text.specs.Lines.{Asked, commands_of, LineAsks, Leave, Leaves}
use Rattle.order_text.proofs.OneAnswers.{one_saying}
use Rattle.line_keeping.specs.Answers.{AreAnswered}
use Rattle.line_keeping.proofs.Joining.{Pairs, Texts}
use Rattle.encode_word.proofs.TickersLeft.{served_tickers, step_tickers}

-- commands leave some tickers
leaves_some : (m : Market) (commands : List Command) → (after : Texts) × Leave m.version m.tickers commands after
leaves_some m [] = (m.tickers, refl)
leaves_some m (command ∷ commands) =
    let served = served_is_there m command in
    let rest = leaves_some served.1 commands in
    let same = served_version IsCanonicalOutcome m command served.0 served.1 served.2 in
    (rest.0, (served.1.tickers, served_tickers IsCanonicalOutcome m command served.0 served.1 served.2, subst (λ (v : Version). Leave v served.1.tickers commands rest.0) same rest.1))

-- a line asks for one thing
pub one_asked : (m : Market) (line : List ℕ) (a b : Asked) → LineAsks m.version m.tickers line a → LineAsks m.version m.tickers line b → a ≡ b
one_asked m line a b x y =
    let first = leaves_some m (commands_of a) in
    let other = leaves_some m (commands_of b) in
    (one_saying m.version m.tickers line a b first.0 other.0 (record { asks = x; leaves = first.1 }) (record { asks = y; leaves = other.1 })).0

-- commands that are answered leave the tickers of the market after them
pub answered_leave : (version : Version) (old : Market) (count : ℕ) (commands : List Command) (pairs : Pairs) (texts : Texts) (new : Market) → old.version ≡ version → All IsCommand commands → All (IsOfVersion version) commands
    → AreAnswered old count commands pairs texts new → Leave version old.tickers commands new.tickers
answered_leave version old count [] pairs texts new of fit own (none, no_texts, same) = ap (λ (m : Market). m.tickers) same
answered_leave version old count (command ∷ commands) pairs texts new of fit own (pair, text, next, more, others, asked, step, told, rest, pairs_are, texts_are) =
    let here = step_tickers IsCanonicalOutcome old command pair.asked pair.answer next (subst (λ (v : Version). IsOfVersion v command) (sym of) (All-head (IsOfVersion version) command commands own)) (record { fits = All-head IsCommand command commands fit; encoded = asked }) step in
    let later = step_version IsCanonicalOutcome IsReadAs old pair.asked pair.answer next step ∙ of in
    (next.tickers, subst (λ (v : Version). Leaves v old.tickers command next.tickers) of here, answered_leave version next (count + 1) commands more others new later (All-tail IsCommand command commands fit) (All-tail (IsOfVersion version) command commands own) rest)
