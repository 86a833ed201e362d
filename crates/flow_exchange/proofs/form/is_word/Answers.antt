use Rattle.std.proofs.Common.{◌≡◌, ℕ, List, [], ◌∷◌, length, get_or, map, Global, sym, ap, ◌∙◌, arith}
use Rattle.std.specs.Prelude.{String, string_bytes}
use Rattle.std.specs.Str.{bytes_eq}
use Rattle.std.proofs.lemmas.Slice.Eq.{bytes_eq-Decides}
use Rattle.flow_exchange.proofs.form.is_word.Goals as goal

-- a list of one argument
one_word : (words : List (String Global)) (word : String Global) → length words ≡ 1 → word ≡ get_or words 0 word → map string_bytes words ≡ string_bytes word ∷ []
one_word [] word len is = absurd (omega (arith, len))
one_word (x ∷ []) word len is = ap (λ (w : String Global). string_bytes w ∷ []) (sym is)
one_word (x ∷ y ∷ more) word len is = absurd (omega (arith, len))

-- the first of one argument
first_word : (a b : List ℕ) → a ∷ [] ≡ b ∷ [] → a ≡ b
first_word a b e = cc

pub returns-then-words-eq1 : goal.returns-then-words-eq1
returns-then-words-eq1 c =
    let word = c.index-words-0.result in
    let one = one_word c.args.words.now word (omega arith) c.index-words-0.is in
    let decides = bytes_eq-Decides (string_bytes word) c.args.word.now in
    let same : c.eq.result ≡ bytes_eq (string_bytes word) c.args.word.now = c.eq.ensures ∙ ap (λ xs. bytes_eq xs c.args.word.now) c.as_str.ensures.value in (
      λ t. one ∙ ap (λ xs. xs ∷ []) (decides.0 (sym same ∙ t)),
      λ m. same ∙ decides.1 (first_word (string_bytes word) c.args.word.now (sym one ∙ m)),
    )
