use Rattle.std.proofs.Common.{◌≡◌, ℕ, List, [], ◌∷◌, true, false, sym, ap, ◌∙◌, arith}
use Rattle.std.specs.Prelude.{string_bytes}
use Rattle.std.specs.Str.{bytes_eq}
use Rattle.std.proofs.lemmas.Slice.Eq.{bytes_eq-Decides}
use Rattle.kept_exchange.proofs.TwoWords.{two_words, first_is}
use Rattle.kept_exchange.proofs.words.file_after.Goals as goal

pub returns-then-eq-clause-file : goal.returns-then-eq-clause-file
returns-then-eq-clause-file c =
    let a = c.index-words-0.result in
    let b = c.index-words-1.result in
    let word = c.args.subcommand.now in
    let two = two_words c.args.words.now a b (omega arith) c.index-words-0.is c.index-words-1.is in
    let by_first : c.eq.result ≡ bytes_eq (string_bytes a) word = c.eq.ensures ∙ ap (λ xs. bytes_eq xs word) c.as_str.ensures.value in
    let is_first = (bytes_eq-Decides (string_bytes a) word).0 (sym by_first ∙ c.if-eq.true) in
    two ∙ ap (λ (xs : List ℕ). xs ∷ string_bytes b ∷ []) is_first ∙ ap (λ (xs : List ℕ). word ∷ xs ∷ []) (sym c.as_str-then-eq.ensures.value)

pub returns-clause-none : goal.returns-clause-none
returns-clause-none c = λ file are.
    let a = c.index-words-0.result in
    let word = c.args.subcommand.now in
    let by_first : c.eq.result ≡ bytes_eq (string_bytes a) word = c.eq.ensures ∙ ap (λ xs. bytes_eq xs word) c.as_str.ensures.value in
    let is_first = by_first ∙ (bytes_eq-Decides (string_bytes a) word).1 (first_is c.args.words.now a word file c.index-words-0.is are) in
    absurd (let bad : true ≡ false = sym is_first ∙ c.if-eq.false in cc)
