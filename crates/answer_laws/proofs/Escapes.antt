-- A ticker of any bytes of ASCII, written in an answer and read: an addition that is refused may name one.
use Rattle.std.proofs.Common.{◌≡◌, ℕ, zero, suc, ◌<◌, ◌≤◌, Bool, true, false, cond, ◌&&◌, List, [], ◌∷◌, ◌++◌, Some, inl, inr, ◌⊎◌, refl, sym, ap, ap₂, ◌∙◌, subst, arith, append_assoc, length, flat_map, codes, IsUtf8, All}
use Rattle.std.specs.List.{AllByRecursion}
use Rattle.std.proofs.lemmas.Bool.{cases_eq, cases_lt, ne_eqb, le-ltb, and_parts}
use Rattle.std.proofs.lemmas.List.Elements.{All-from_recursion}
use Rattle.std.proofs.lemmas.Str.{IsUtf8-append, IsUtf8-nil}
use lib.Utf8.{encode}
use Rattle.json.specs.Json as json
use Rattle.json.specs.Text.{content, plain, prepend, code_unit, short_escape}
use Rattle.json.specs.Token.{Token, begin_object, end_object}
use Rattle.json.specs.Word.{is_operator, is_space}
use Rattle.json.specs.Lex.{Lexeme, token, comma, colon, Mode, lex, lex_byte, between, in_string, operator, space, other, string_token, fresh, punctuate, tokens}
use Rattle.json.specs.Tree.{json_tokens}
use Rattle.json.proofs.Printed.Utf8.{are_ascii, IsUtf8-are_ascii}
use Rattle.serde_json.specs.Data.{Data, string, object, no_members, put}
use Rattle.wire_records.specs.Commands.{AddAsset}
use Rattle.wire_records.specs.Versions.{IsOfVersion}
use Rattle.wire_records.specs.declared.version.Version.{Version}
use Rattle.order_text.specs.Lines.{HasAt, members_of, Alone, LineAsks}
use Rattle.answer_text.specs.Texts.{escaped, unpadded}
use Rattle.answer_text.specs.Answers.{command_members}
use Rattle.answer_laws.specs.Laws.{echo_of}
use Rattle.answer_laws.proofs.ReadBack.{read_back, not_blank}
use Rattle.answer_laws.proofs.Names.{padded_again, bytes_of}

-- what both readers make of what is written for a byte, before any text: one reads the byte, and the other passes over it
abbrev Passes : ℕ → Type 0
Passes x = ((r : List ℕ) → content plain (escaped x ++ r) ≡ prepend (x ∷ []) (content plain r)) × ((r : List ℕ) → lex in_string (escaped x ++ r) ≡ lex in_string r)

-- P holds below n, counted down from the top
abbrev Each : (ℕ → Type 0) → ℕ → Type 0
Each P zero = Unit {0}
Each P (suc n) = P n × Each P n

each_sound : (P : ℕ → Type 0) (n : ℕ) → Each P n → (x : ℕ) → x < n → P x
each_sound P zero h x lt = absurd (omega arith)
each_sound P (suc n) h x lt = go (each_sound P n h.1 x) (cases_eq x n)
  where
    go : (x < n → P x) → (x ≡ n) ⊎ (x ≡ n → ⊥) → P x
    go below (inl e) = subst P (sym e) h.0
    go below (inr ne) = below (omega arith)

-- the bytes below a space, one by one
controls : Each Passes 32
unfolding escaped content lex code_unit short_escape encode
controls = (
  (λ r. refl, λ r. refl),
  (
    (λ r. refl, λ r. refl),
    (
      (λ r. refl, λ r. refl),
      (
        (λ r. refl, λ r. refl),
        (
          (λ r. refl, λ r. refl),
          (
            (λ r. refl, λ r. refl),
            (
              (λ r. refl, λ r. refl),
              (
                (λ r. refl, λ r. refl),
                (
                  (λ r. refl, λ r. refl),
                  (
                    (λ r. refl, λ r. refl),
                    (
                      (λ r. refl, λ r. refl),
                      (
                        (λ r. refl, λ r. refl),
                        (
                          (λ r. refl, λ r. refl),
                          (
                            (λ r. refl, λ r. refl),
                            (
                              (λ r. refl, λ r. refl),
                              (
                                (λ r. refl, λ r. refl),
                                (
                                  (λ r. refl, λ r. refl),
                                  (
                                    (λ r. refl, λ r. refl),
                                    (
                                      (λ r. refl, λ r. refl),
                                      (
                                        (λ r. refl, λ r. refl),
                                        (
                                          (λ r. refl, λ r. refl),
                                          (
                                            (λ r. refl, λ r. refl),
                                            (
                                              (λ r. refl, λ r. refl),
                                              (
                                                (λ r. refl, λ r. refl),
                                                (
                                                  (λ r. refl, λ r. refl),
                                                  (
                                                    (λ r. refl, λ r. refl),
                                                    (
                                                      (λ r. refl, λ r. refl),
                                                      (
                                                        (λ r. refl, λ r. refl),
                                                        ((λ r. refl, λ r. refl), ((λ r. refl, λ r. refl), ((λ r. refl, λ r. refl), ((λ r. refl, λ r. refl), tt)))),
                                                      ),
                                                    ),
                                                  ),
                                                ),
                                              ),
                                            ),
                                          ),
                                        ),
                                      ),
                                    ),
                                  ),
                                ),
                              ),
                            ),
                          ),
                        ),
                      ),
                    ),
                  ),
                ),
              ),
            ),
          ),
        ),
      ),
    ),
  ),
)

quote_passes : Passes 34
unfolding escaped content lex short_escape
quote_passes = (λ r. refl, λ r. refl)

backslash_passes : Passes 92
unfolding escaped content lex short_escape
backslash_passes = (λ r. refl, λ r. refl)

stays_inside : (o s : Bool) (x : ℕ) (r : List ℕ) (k : Mode → List Lexeme) → lex_byte in_string (cond o operator (cond s space other)) x r k ≡ k in_string
stays_inside true s x r k = refl
stays_inside false true x r k = refl
stays_inside false false x r k = refl

itself : (x : ℕ) → (x ≡ 34 → ⊥) → (x ≡ 92 → ⊥) → 32 ≤ x → escaped x ≡ x ∷ []
unfolding escaped
itself x quote backslash high = rw (ne_eqb x 34 quote, ne_eqb x 92 backslash, le-ltb x 32 high) refl

plain_passes : (x : ℕ) → (x ≡ 34 → ⊥) → (x ≡ 92 → ⊥) → 32 ≤ x → Passes x
unfolding content lex
plain_passes x quote backslash high =
    let same = itself x quote backslash high in (
      λ r. rw (same, ne_eqb x 34 quote, ne_eqb x 92 backslash, le-ltb x 32 high),
      λ r. rw (same, ne_eqb x 34 quote, ne_eqb x 92 backslash) (stays_inside (is_operator x) (is_space x) x r (λ m. lex m r)),
    )

passes : (x : ℕ) → Passes x
passes x = go (cases_eq x 34) (cases_eq x 92) (cases_lt x 32)
  where
    go : (x ≡ 34) ⊎ (x ≡ 34 → ⊥) → (x ≡ 92) ⊎ (x ≡ 92 → ⊥) → (x < 32) ⊎ (32 ≤ x) → Passes x
    go (inl e) b c = subst Passes (sym e) quote_passes
    go (inr q) (inl e) c = subst Passes (sym e) backslash_passes
    go (inr q) (inr b) (inl c) = each_sound Passes 32 controls x c
    go (inr q) (inr b) (inr l) = plain_passes x q b l

content_written : (s r : List ℕ) → content plain (flat_map escaped s ++ 34 ∷ r) ≡ Some s
unfolding content
content_written [] r = refl
content_written (x ∷ s) r = ap (content plain) (append_assoc (escaped x) (flat_map escaped s) (34 ∷ r)) ∙ (passes x).0 _ ∙ ap (prepend (x ∷ [])) (content_written s r)

lex_written : (s r : List ℕ) → lex in_string (flat_map escaped s ++ 34 ∷ r) ≡ lex between r
unfolding lex
lex_written [] r = refl
lex_written (x ∷ s) r = ap (lex in_string) (append_assoc (escaped x) (flat_map escaped s) (34 ∷ r)) ∙ (passes x).1 _ ∙ lex_written s r

-- what is written for a byte of ASCII is ASCII
abbrev written_below : ℕ → Bool
written_below zero = true
written_below (suc n) = are_ascii (escaped n) && written_below n

ascii_below : (n : ℕ) → written_below n ≡ true → (x : ℕ) → x < n → are_ascii (escaped x) ≡ true
ascii_below zero e x h = absurd (omega arith)
ascii_below (suc n) e x h =
    let p = and_parts _ _ e in
    elim (cases_eq x n) [ inl same ↦ rw same p.0 | inr apart ↦ ascii_below n p.1 x (omega arith) ]

all_ascii : written_below 128 ≡ true
unfolding escaped
all_ascii = refl

written_utf8 : (s : List ℕ) → AllByRecursion (λ byte. byte < 128) s → IsUtf8 (flat_map escaped s)
written_utf8 [] h = IsUtf8-nil
written_utf8 (x ∷ s) h = IsUtf8-append (escaped x) (flat_map escaped s) (IsUtf8-are_ascii (escaped x) (ascii_below 128 all_ascii x h.0)) (written_utf8 s h.1)

-- ---- an asset

abbrev asset_json : List ℕ → json.Json
asset_json s = json.object (json.member (codes "do") (json.string (codes "asset")) (json.member (codes "ticker") (json.string s) json.no_members))

abbrev asset_data : List ℕ → Data
asset_data s = object (put (codes "ticker") (string s) (put (codes "do") (string (codes "asset")) no_members))

asset_lexed : (s : List ℕ) → lex between (codes "{\"do\":\"asset\",\"ticker\":\"" ++ (flat_map escaped s ++ 34 ∷ 125 ∷ []))
    ≡ token begin_object ∷ token (Token.string (codes "do")) ∷ colon ∷ token (Token.string (codes "asset")) ∷ comma ∷ token (Token.string (codes "ticker")) ∷ colon ∷ token (Token.string s) ∷ token end_object ∷ []
unfolding lex content
asset_lexed s =
    ap₂ (λ o l. token begin_object ∷ token (Token.string (codes "do")) ∷ colon ∷ token (Token.string (codes "asset")) ∷ comma ∷ token (Token.string (codes "ticker")) ∷ colon ∷ token (string_token o) ∷ l)
    (content_written s (125 ∷ [])) (lex_written s (125 ∷ []))

asset_tokens : (s : List ℕ) → tokens (codes "{\"do\":\"asset\",\"ticker\":\"" ++ (flat_map escaped s ++ 34 ∷ 125 ∷ [])) ≡ json_tokens (asset_json s)
unfolding punctuate
asset_tokens s = ap (punctuate fresh) (asset_lexed s)

asset_text : (s : List ℕ) → 123 ∷ ((codes "\"do\":\"asset\",\"ticker\":" ++ (codes "\"" ++ (flat_map escaped s ++ codes "\""))) ++ 125 ∷ []) ≡ codes "{\"do\":\"asset\",\"ticker\":\"" ++ (flat_map escaped s ++ 34 ∷ 125 ∷ [])
asset_text s = ap (λ l. codes "{\"do\":\"asset\",\"ticker\":\"" ++ l) (append_assoc (flat_map escaped s) (34 ∷ []) (125 ∷ []))

pub asset_asks : (version : Version) (tickers : List (List ℕ)) (ticker : List ℕ) → length ticker ≡ 8 → All (λ byte. byte < 128) ticker → IsOfVersion version (AddAsset ticker)
    → LineAsks version tickers (echo_of tickers (AddAsset ticker)) (Alone (AddAsset ticker))
asset_asks version tickers ticker eight ascii of =
    let s = unpadded ticker in
    let bytes = bytes_of (λ byte. byte < 128) ticker ascii in
    record {
      written = not_blank (command_members tickers (AddAsset ticker) ++ 125 ∷ []);
      utf8 = subst IsUtf8 (sym (asset_text s)) (IsUtf8-append (codes "{\"do\":\"asset\",\"ticker\":\"") _ (IsUtf8-are_ascii _ refl) (IsUtf8-append (flat_map escaped s) _ (written_utf8 s bytes) (IsUtf8-are_ascii (34 ∷ 125 ∷ []) refl)));
      value = asset_data s;
      reads = read_back (asset_json s) (echo_of tickers (AddAsset ticker)) (asset_data s) (ap tokens (asset_text s) ∙ asset_tokens s) (omega arith) refl;
      asks = (
        (
          All-from_recursion (λ m. HasAt tickers (asset_data s) m.0 m.1) (members_of (AddAsset ticker)) (
            (string (codes "asset"), refl, refl),
            ((string s, refl, (s, refl, All-from_recursion (λ byte. byte < 128) s bytes, padded_again ticker eight)), tt),
          ),
          refl,
        ),
        of,
      );
    }
