-- What is read of the text of a value.
use Rattle.std.proofs.Common.{◌≡◌, ℕ, ◌≤◌, ◌<◌, ◌^◌, Bool, List, [], ◌∷◌, ◌++◌, Some, sym, ap, ◌∙◌, arith, append-nil, option_and_then, option_map, decimal, IsUtf8, ◌⊎◌, inl, inr, subst}
use Rattle.std.specs.Prelude.{⊤}
use Rattle.std.proofs.lemmas.List.Elements.{recursion_from_All}
use Rattle.std.proofs.lemmas.Str.{IsUtf8-append, IsUtf8-nil, IsUtf8-from_ascii}
use Rattle.std.proofs.lemmas.Fmt.{IsAscii-decimal}
use Rattle.json.specs.Token.{Token}
use Rattle.json.specs.Json as json
use Rattle.json.specs.Lex.{tokens}
use Rattle.json.specs.Print.{token_text, ends, print_from, print}
use Rattle.json.specs.Tree.{json_tokens, depth, HasNumbers}
use Rattle.json.proofs.Printed.Tokens.{tokens-print}
use Rattle.json.proofs.Printed.Trees.{value-json_tokens, ArePrintable-json_tokens}
use Rattle.json.proofs.Printed.Utf8.{IsUtf8-separator}
use Rattle.serde_json.specs.Data.{Data, unsigned, number, Members, put}
use Rattle.serde_json.specs.Read.{of_json, of_members, read}
use Rattle.serde_json.proofs.Numbers.{number_of-decimal}
use Rattle.wire_records.specs.Commands.{Command}
use Rattle.wire_records.specs.Versions.{IsOfVersion}
use Rattle.wire_records.specs.declared.version.Version.{Version}
use Rattle.order_text.specs.Lines.{IsBlank, HasMembers, members_of, Alone, LineAsks}

-- a text whose tokens are those of a value is read as the value
pub read_back : (j : json.Json) (text : List ℕ) (d : Data) → tokens text ≡ json_tokens j → depth j ≤ 127 → of_json j ≡ Some d → read text ≡ Some d
read_back j text d is shallow means =
    ap (λ ts. option_and_then of_json (option_and_then (λ p. json.if_last p.0 p.1) (json.value 127 ts))) (is ∙ sym (append-nil (json_tokens j)))
    ∙ ap (λ o. option_and_then of_json (option_and_then (λ p. json.if_last p.0 p.1) o)) (value-json_tokens j 127 [] shallow)
    ∙ means

-- a printed value is read as it is
pub printed_back : (j : json.Json) (text : List ℕ) (d : Data) → text ≡ print (json_tokens j) → HasNumbers j → depth j ≤ 127 → of_json j ≡ Some d → read text ≡ Some d
printed_back j text d is numbers shallow means = read_back j text d (ap tokens is ∙ tokens-print (json_tokens j) (ArePrintable-json_tokens j numbers)) shallow means

-- one member more
pub one_more : (k : List ℕ) (j : json.Json) (ms : json.Members) (found : Members) (d : Data) → of_json j ≡ Some d → of_members (json.member k j ms) found ≡ of_members ms (put k d found)
one_more k j ms found d e = ap (option_and_then (λ v. of_members ms (put k v found))) e

-- a whole number
pub whole_back : (n : ℕ) → n < 2 ^ 64 → of_json (json.number (decimal n)) ≡ Some (number (unsigned n))
whole_back n h = ap (option_map number) (number_of-decimal n h)

pub whole_utf8 : (n : ℕ) → n < 2 ^ 64 → IsUtf8 (decimal n)
whole_utf8 n h = IsUtf8-from_ascii (decimal n) (IsAscii-decimal n h)

-- the text of each token is UTF-8
abbrev pub AreUtf8 : List Token → Type 0
AreUtf8 [] = ⊤
AreUtf8 (t ∷ ts) = IsUtf8 (token_text t) × AreUtf8 ts

pub utf8_printed : (c : Bool) (ts : List Token) → AreUtf8 ts → IsUtf8 (print_from c ts)
unfolding print_from
utf8_printed c [] h = IsUtf8-nil
utf8_printed c (t ∷ ts) h = IsUtf8-append _ _ (IsUtf8-separator c t) (IsUtf8-append _ _ h.0 (utf8_printed (ends t) ts h.1))

pub utf8_joined : (ts us : List Token) → AreUtf8 ts → AreUtf8 us → AreUtf8 (ts ++ us)
utf8_joined [] us h k = k
utf8_joined (t ∷ ts) us h k = (h.0, utf8_joined ts us h.1 k)

-- a text that begins with a brace isn't blank
pub not_blank : (text : List ℕ) → IsBlank (123 ∷ text) → ⊥
not_blank text blank = elim ((recursion_from_All (λ byte. (byte ≡ 32) ⊎ (byte ≡ 9) ⊎ (byte ≡ 13)) (123 ∷ text) blank).0) [
  | inl e ↦ omega (arith, e)
  | inr (inl e) ↦ omega (arith, e)
  | inr (inr e) ↦ omega (arith, e)
]

-- the text of an object that is printed asks for the command whose members it has
pub printed_asks : (version : Version) (tickers : List (List ℕ)) (command : Command) (text : List ℕ) (j : json.Json) (d : Data) → 123 ∷ text ≡ print (json_tokens j) → HasNumbers j → depth j ≤ 127 → AreUtf8 (json_tokens j)
    → of_json j ≡ Some d → HasMembers tickers d (members_of command) → IsOfVersion version command → LineAsks version tickers (123 ∷ text) (Alone command)
printed_asks version tickers command text j d is numbers shallow utf8 means members of = record {
  written = not_blank text;
  utf8 = subst IsUtf8 (sym is) (utf8_printed _ (json_tokens j) utf8);
  value = d;
  reads = printed_back j (123 ∷ text) d is numbers shallow means;
  asks = (members, of);
}
