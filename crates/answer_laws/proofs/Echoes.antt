-- The members of each command but the addition of an asset, read as a line.
use Rattle.std.proofs.Common.{◌≡◌, ℕ, ◌≤◌, ◌<◌, ◌^◌, true, List, [], ◌∷◌, ◌++◌, length, append_assoc, Some, None, refl, sym, ap, ◌∙◌, arith, decimal, codes, IsUtf8, option_map, flat_map, subst}
use Rattle.std.specs.Fmt.{signed_decimal}
use Rattle.std.specs.List.{AllByRecursion}
use Rattle.std.proofs.lemmas.List.Elements.{All-from_recursion}
use Rattle.json.specs.Json as json
use Rattle.json.specs.Print.{escape_byte, escape, quoted, print_from, print}
use Rattle.json.specs.Tree.{json_tokens, members_tokens, members_depth, HasNumbers}
use Rattle.json.proofs.Printed.Decimals.{IsNumber-decimal}
use Rattle.json.proofs.Printed.Utf8.{IsUtf8-are_ascii, IsUtf8-quoted, IsUtf8-key, are_ascii}
use Rattle.serde_json.specs.Data.{Data, unsigned, number, string, object, Members, no_members, put}
use Rattle.serde_json.specs.Read.{of_json, of_members}
use Rattle.serde_json.specs.Find.{of_integer}
use Rattle.wire_records.specs.Commands.{Request, Command, OpenAccount, Place, CancelOrder, RunBatch}
use Rattle.wire_records.specs.Bodies.{IsRequest}
use Rattle.wire_records.specs.Versions.{IsOfVersion}
use Rattle.wire_records.specs.declared.version.Version.{Version}
use Rattle.ticker_table.specs.Tickers.{AreTickers}
use Rattle.order_text.specs.Lines.{Text, HasAt, HasMembers, AreWeights, members_of, amount_members, Alone, LineAsks}
use Rattle.order_text.proofs.Weights.{rises_of}
use Rattle.pair_text.specs.Texts.{◌then◌}
use Rattle.answer_text.specs.Texts.{escaped, listed}
use Rattle.answer_text.specs.Answers as answers
use Rattle.answer_text.specs.Answers.{leg_member}
use Rattle.answer_laws.specs.Laws.{echo_of}
use Rattle.answer_laws.proofs.ReadBack.{one_more, whole_back, whole_utf8, AreUtf8, utf8_joined, printed_asks}
use Rattle.answer_laws.proofs.Names.{name_of, name_escapes, name_utf8, names_asset}
use Rattle.answer_laws.proofs.Legs.{IsLeg, legs_json, legs_data, legs_back, legs_numbers, legs_flat, legs_utf8, legs_weigh, legs_printed, signed_number, signed_utf8, signed_back, signed_means}

-- the texts of braces and of keys are UTF-8
begins : IsUtf8 (123 ∷ [])
begins = IsUtf8-are_ascii (123 ∷ []) refl

ends : IsUtf8 (125 ∷ [])
ends = IsUtf8-are_ascii (125 ∷ []) refl

a_key : (k : List ℕ) → are_ascii k ≡ true → IsUtf8 (quoted k ++ 58 ∷ [])
a_key k ascii = IsUtf8-key k (IsUtf8-are_ascii k ascii)

a_text : (k : List ℕ) → are_ascii k ≡ true → IsUtf8 (quoted k)
a_text k ascii = IsUtf8-quoted k (IsUtf8-are_ascii k ascii)

-- ---- texts that are joined from the right

abbrev money_shape : (word account ticks : List ℕ) → List ℕ
money_shape word account ticks = codes "{\"do\":\"" ++ ((word ++ 34 ∷ []) ++ (codes ",\"account\":" ++ (account ++ (codes ",\"ticks\":" ++ (ticks ++ 125 ∷ [])))))

money_joined : (word account ticks : List ℕ) → 123 ∷ ((codes "\"do\":\"" then word then codes "\",\"account\":" then account then codes ",\"ticks\":" then ticks) ++ 125 ∷ []) ≡ money_shape word account ticks
money_joined word account ticks = simp append_assoc

abbrev units_shape : (word account name units : List ℕ) → List ℕ
units_shape word account name units =
    codes "{\"do\":\"" ++ ((word ++ 34 ∷ []) ++ (codes ",\"account\":" ++ (account ++ (codes ",\"asset\":\"" ++ ((name ++ 34 ∷ []) ++ (codes ",\"units\":" ++ (units ++ 125 ∷ [])))))))

units_joined : (word account name units : List ℕ)
    → 123 ∷ ((codes "\"do\":\"" then word then codes "\",\"account\":" then account then codes ",\"asset\":" then (codes "\"" then name then codes "\"") then codes ",\"units\":" then units) ++ 125 ∷ []) ≡ units_shape word account name units
units_joined word account name units = simp append_assoc

abbrev terms_shape : (account low high rate cap tail : List ℕ) → List ℕ
terms_shape account low high rate cap tail =
    codes "\"account\":" ++ (account ++ (codes ",\"low\":" ++ (low ++ (codes ",\"high\":" ++ (high ++ (codes ",\"rate\":" ++ (rate ++ (codes ",\"cap\":" ++ (cap ++ (codes ",\"weights\":{" ++ tail))))))))))

terms_joined : (account low high rate cap weights : List ℕ)
    → (codes "\"account\":" then account then codes "," then codes "\"low\":" then low then codes ",\"high\":" then high then codes ",\"rate\":" then rate then codes ",\"cap\":" then cap then codes ",\"weights\":{" then weights then codes "}") ++ 125 ∷ []
    ≡ terms_shape account low high rate cap (weights ++ (125 ∷ 125 ∷ []))
terms_joined account low high rate cap weights = simp append_assoc

last_joined : (last terms : List ℕ) → 123 ∷ ((codes "\"do\":\"place\"," then (codes "\"last\":" then last then codes ",") then terms) ++ 125 ∷ []) ≡ codes "{\"do\":\"place\",\"last\":" ++ (last ++ (44 ∷ (terms ++ 125 ∷ [])))
last_joined last terms = simp append_assoc

module _ (version : Version) (tickers : List (List ℕ)) where
  -- ---- an account

  open_data : Data
  open_data = object (put (codes "do") (string (codes "account")) no_members)

  pub open_asks : IsOfVersion version OpenAccount → LineAsks version tickers (echo_of tickers OpenAccount) (Alone OpenAccount)
  unfolding print_from escape_byte open_data
  open_asks of =
      printed_asks version tickers OpenAccount _ (json.object (json.member (codes "do") (json.string (codes "account")) json.no_members)) open_data refl (tt, tt) (omega arith)
      (begins, (a_key (codes "do") refl, (a_text (codes "account") refl, (ends, tt)))) refl
      (All-from_recursion (λ m. HasAt tickers open_data m.0 m.1) (members_of OpenAccount) ((string (codes "account"), refl, refl), tt), refl) of

  -- ---- a cancel

  abbrev cancel_json : ℕ → ℕ → json.Json
  cancel_json account order =
      json.object (json.member (codes "do") (json.string (codes "cancel")) (json.member (codes "account") (json.number (decimal account)) (json.member (codes "order") (json.number (decimal order)) json.no_members)))

  abbrev cancel_data : ℕ → ℕ → Data
  cancel_data account order = object (put (codes "order") (number (unsigned order)) (put (codes "account") (number (unsigned account)) (put (codes "do") (string (codes "cancel")) no_members)))

  cancel_text : (account order : ℕ) → echo_of tickers (CancelOrder account order) ≡ print (json_tokens (cancel_json account order))
  unfolding print_from escape_byte
  cancel_text account order = simp append_assoc

  cancel_read : (account order : ℕ) → account < 2 ^ 32 → order < 2 ^ 64 → of_json (cancel_json account order) ≡ Some (cancel_data account order)
  cancel_read account order small large =
      ap (option_map object) (one_more (codes "account") (json.number (decimal account)) (json.member (codes "order") (json.number (decimal order)) json.no_members) (put (codes "do") (string (codes "cancel")) no_members) (number (unsigned account)) (whole_back account (omega arith))
      ∙ one_more (codes "order") (json.number (decimal order)) json.no_members (put (codes "account") (number (unsigned account)) (put (codes "do") (string (codes "cancel")) no_members)) (number (unsigned order)) (whole_back order large))

  pub cancel_asks : (account order : ℕ) → account < 2 ^ 32 → order < 2 ^ 64 → IsOfVersion version (CancelOrder account order) → LineAsks version tickers (echo_of tickers (CancelOrder account order)) (Alone (CancelOrder account order))
  cancel_asks account order small large of =
      printed_asks version tickers (CancelOrder account order) _ (cancel_json account order) (cancel_data account order) (cancel_text account order) (tt, (IsNumber-decimal account (omega arith), (IsNumber-decimal order large, tt))) (omega arith)
      (begins, (a_key (codes "do") refl, (a_text (codes "cancel") refl, (a_key (codes "account") refl, (whole_utf8 account (omega arith), (a_key (codes "order") refl, (whole_utf8 order large, (ends, tt))))))))
      (cancel_read account order small large) (
        All-from_recursion (λ m. HasAt tickers (cancel_data account order) m.0 m.1) (members_of (CancelOrder account order)) (
          (string (codes "cancel"), refl, refl),
          ((number (unsigned account), refl, (refl, small)), ((number (unsigned order), refl, refl), tt)),
        ),
        refl,
      )
      of

  -- ---- a batch

  abbrev batch_json : ℕ → json.Json
  batch_json budget = json.object (json.member (codes "do") (json.string (codes "batch")) (json.member (codes "budget") (json.number (decimal budget)) json.no_members))

  abbrev batch_data : ℕ → Data
  batch_data budget = object (put (codes "budget") (number (unsigned budget)) (put (codes "do") (string (codes "batch")) no_members))

  batch_text : (budget : ℕ) → echo_of tickers (RunBatch budget) ≡ print (json_tokens (batch_json budget))
  unfolding print_from escape_byte
  batch_text budget = refl

  pub batch_asks : (budget : ℕ) → budget < 2 ^ 32 → IsOfVersion version (RunBatch budget) → LineAsks version tickers (echo_of tickers (RunBatch budget)) (Alone (RunBatch budget))
  batch_asks budget small of =
      printed_asks version tickers (RunBatch budget) _ (batch_json budget) (batch_data budget) (batch_text budget) (tt, (IsNumber-decimal budget (omega arith), tt)) (omega arith)
      (begins, (a_key (codes "do") refl, (a_text (codes "batch") refl, (a_key (codes "budget") refl, (whole_utf8 budget (omega arith), (ends, tt))))))
      (ap (option_map object) (one_more (codes "budget") (json.number (decimal budget)) json.no_members (put (codes "do") (string (codes "batch")) no_members) (number (unsigned budget)) (whole_back budget (omega arith)))) (
        All-from_recursion (λ m. HasAt tickers (batch_data budget) m.0 m.1) (members_of (RunBatch budget)) ((string (codes "batch"), refl, refl), ((number (unsigned budget), refl, (refl, small)), tt)),
        refl,
      )
      of

  -- ---- a deposit, a withdrawal or a credit

  module _ (word : List ℕ) (plain : escape word ≡ word) (ascii : are_ascii word ≡ true) (account : ℕ) (small : account < 2 ^ 32) where
    -- the members that each has
    abbrev first_data : Members
    first_data = put (codes "account") (number (unsigned account)) (put (codes "do") (string word) no_members)

    first_read : (ms : json.Members) → of_members (json.member (codes "do") (json.string word) (json.member (codes "account") (json.number (decimal account)) ms)) no_members ≡ of_members ms first_data
    first_read ms = one_more (codes "account") (json.number (decimal account)) ms (put (codes "do") (string word) no_members) (number (unsigned account)) (whole_back account (omega arith))

    abbrev money_json : ℕ → json.Json
    money_json ticks = json.object (json.member (codes "do") (json.string word) (json.member (codes "account") (json.number (decimal account)) (json.member (codes "ticks") (json.number (decimal ticks)) json.no_members)))

    abbrev money_data : ℕ → Data
    money_data ticks = object (put (codes "ticks") (number (unsigned ticks)) first_data)

    money_text : (ticks : ℕ) → 123 ∷ (answers.amount_members word tickers account None ticks ++ 125 ∷ []) ≡ print (json_tokens (money_json ticks))
    unfolding print_from escape_byte
    money_text ticks = money_joined word (decimal account) (decimal ticks) ∙ ap (λ w. money_shape w (decimal account) (decimal ticks)) (sym plain)

    pub money_asks : (ticks : ℕ) → ticks < 2 ^ 64 → (command : Command) → members_of command ≡ (codes "do", Text word) ∷ amount_members account None ticks → IsOfVersion version command
        → LineAsks version tickers (123 ∷ (answers.amount_members word tickers account None ticks ++ 125 ∷ [])) (Alone command)
    money_asks ticks large command is of =
        printed_asks version tickers command _ (money_json ticks) (money_data ticks) (money_text ticks) (tt, (IsNumber-decimal account (omega arith), (IsNumber-decimal ticks large, tt))) (omega arith)
        (begins, (a_key (codes "do") refl, (a_text word ascii, (a_key (codes "account") refl, (whole_utf8 account (omega arith), (a_key (codes "ticks") refl, (whole_utf8 ticks large, (ends, tt))))))))
        (ap (option_map object) (first_read (json.member (codes "ticks") (json.number (decimal ticks)) json.no_members)
        ∙ one_more (codes "ticks") (json.number (decimal ticks)) json.no_members first_data (number (unsigned ticks)) (whole_back ticks large)))
        (subst (HasMembers tickers (money_data ticks)) (sym is) (
          All-from_recursion (λ m. HasAt tickers (money_data ticks) m.0 m.1) ((codes "do", Text word) ∷ amount_members account None ticks) (
            (string word, refl, refl),
            ((number (unsigned account), refl, (refl, small)), ((number (unsigned ticks), refl, refl), tt)),
          ),
          refl,
        ))
        of

    module _ (are : AreTickers tickers) (asset : ℕ) (below : asset < length tickers) where
      abbrev units_json : ℕ → json.Json
      units_json units =
          json.object (json.member (codes "do") (json.string word) (json.member (codes "account") (json.number (decimal account))
          (json.member (codes "asset") (json.string (name_of tickers asset)) (json.member (codes "units") (json.number (decimal units)) json.no_members))))

      abbrev units_data : ℕ → Data
      units_data units = object (put (codes "units") (number (unsigned units)) (put (codes "asset") (string (name_of tickers asset)) first_data))

      units_text : (units : ℕ) → 123 ∷ (answers.amount_members word tickers account (Some asset) units ++ 125 ∷ []) ≡ print (json_tokens (units_json units))
      unfolding print_from escape_byte
      units_text units =
          units_joined word (decimal account) (flat_map escaped (name_of tickers asset)) (decimal units)
          ∙ ap (λ w. units_shape w (decimal account) (flat_map escaped (name_of tickers asset)) (decimal units)) (sym plain)
          ∙ ap (λ n. units_shape (escape word) (decimal account) n (decimal units)) (name_escapes tickers are asset below)

      pub units_asks : (units : ℕ) → units < 2 ^ 64 → (command : Command) → members_of command ≡ (codes "do", Text word) ∷ amount_members account (Some asset) units → IsOfVersion version command
          → LineAsks version tickers (123 ∷ (answers.amount_members word tickers account (Some asset) units ++ 125 ∷ [])) (Alone command)
      units_asks units large command is of =
          printed_asks version tickers command _ (units_json units) (units_data units) (units_text units) (tt, (IsNumber-decimal account (omega arith), (tt, (IsNumber-decimal units large, tt)))) (omega arith)
          (begins, (a_key (codes "do") refl, (a_text word ascii, (a_key (codes "account") refl, (whole_utf8 account (omega arith), (a_key (codes "asset") refl, (IsUtf8-quoted (name_of tickers asset) (name_utf8 tickers are asset below), (a_key (codes "units") refl, (whole_utf8 units large, (ends, tt))))))))))
          (ap (option_map object) (first_read (json.member (codes "asset") (json.string (name_of tickers asset)) (json.member (codes "units") (json.number (decimal units)) json.no_members))
          ∙ one_more (codes "units") (json.number (decimal units)) json.no_members (put (codes "asset") (string (name_of tickers asset)) first_data) (number (unsigned units)) (whole_back units large)))
          (subst (HasMembers tickers (units_data units)) (sym is) (
            All-from_recursion (λ m. HasAt tickers (units_data units) m.0 m.1) ((codes "do", Text word) ∷ amount_members account (Some asset) units) (
              (string word, refl, refl),
              ((number (unsigned account), refl, (refl, small)), ((string (name_of tickers asset), refl, (name_of tickers asset, refl, names_asset tickers are asset below)), ((number (unsigned units), refl, refl), tt))),
            ),
            refl,
          ))
          of

  -- ---- a placement

  -- what follows each member
  abbrev after_cap : Request → json.Members
  after_cap r = json.member (codes "weights") (json.object (legs_json tickers r.row)) json.no_members

  abbrev after_rate : Request → json.Members
  after_rate r = json.member (codes "cap") (json.number (decimal r.cap)) (after_cap r)

  abbrev after_high : Request → json.Members
  after_high r = json.member (codes "rate") (json.number (decimal r.rate)) (after_rate r)

  abbrev after_low : Request → json.Members
  after_low r = json.member (codes "high") (json.number (signed_decimal r.high)) (after_high r)

  abbrev after_account : Request → json.Members
  after_account r = json.member (codes "low") (json.number (signed_decimal r.low)) (after_low r)

  abbrev order_json : Request → json.Members
  order_json r = json.member (codes "account") (json.number (decimal r.account)) (after_account r)

  -- what was read up to each member
  abbrev to_account : Request → Members → Members
  to_account r found = put (codes "account") (number (unsigned r.account)) found

  abbrev to_low : Request → Members → Members
  to_low r found = put (codes "low") (number (of_integer r.low)) (to_account r found)

  abbrev to_high : Request → Members → Members
  to_high r found = put (codes "high") (number (of_integer r.high)) (to_low r found)

  abbrev to_rate : Request → Members → Members
  to_rate r found = put (codes "rate") (number (unsigned r.rate)) (to_high r found)

  abbrev to_cap : Request → Members → Members
  to_cap r found = put (codes "cap") (number (unsigned r.cap)) (to_rate r found)

  abbrev order_data : Request → Members → Members
  order_data r found = put (codes "weights") (object (legs_data tickers r.row)) (to_cap r found)

  module _ (are : AreTickers tickers) (r : Request) (fits : IsRequest r) (legs : AllByRecursion (IsLeg tickers) r.row) where
    order_read : (found : Members) → of_members (order_json r) found ≡ Some (order_data r found)
    order_read found =
        one_more (codes "account") (json.number (decimal r.account)) (after_account r) found (number (unsigned r.account)) (whole_back r.account (omega (arith, fits.account)))
        ∙ one_more (codes "low") (json.number (signed_decimal r.low)) (after_low r) (to_account r found) (number (of_integer r.low)) (signed_back r.low fits.low)
        ∙ one_more (codes "high") (json.number (signed_decimal r.high)) (after_high r) (to_low r found) (number (of_integer r.high)) (signed_back r.high fits.high)
        ∙ one_more (codes "rate") (json.number (decimal r.rate)) (after_rate r) (to_high r found) (number (unsigned r.rate)) (whole_back r.rate (omega (arith, fits.rate)))
        ∙ one_more (codes "cap") (json.number (decimal r.cap)) (after_cap r) (to_rate r found) (number (unsigned r.cap)) (whole_back r.cap (omega (arith, fits.cap)))
        ∙ one_more (codes "weights") (json.object (legs_json tickers r.row)) json.no_members (to_cap r found) (object (legs_data tickers r.row)) (legs_back tickers r.row legs)

    order_numbers : HasNumbers (json.object (order_json r))
    order_numbers = (
      IsNumber-decimal r.account (omega (arith, fits.account)),
      (signed_number r.low fits.low, (signed_number r.high fits.high, (IsNumber-decimal r.rate (omega (arith, fits.rate)), (IsNumber-decimal r.cap (omega (arith, fits.cap)), (legs_numbers tickers r.row legs, tt))))),
    )

    order_shallow : members_depth (order_json r) ≤ 2
    order_shallow = rw (legs_flat tickers r.row) (omega arith)

    order_utf8 : AreUtf8 (members_tokens (order_json r))
    order_utf8 = (
      a_key (codes "account") refl,
      (
        whole_utf8 r.account (omega (arith, fits.account)),
        (
          a_key (codes "low") refl,
          (
            signed_utf8 r.low fits.low,
            (
              a_key (codes "high") refl,
              (
                signed_utf8 r.high fits.high,
                (
                  a_key (codes "rate") refl,
                  (
                    whole_utf8 r.rate (omega (arith, fits.rate)),
                    (
                      a_key (codes "cap") refl,
                      (
                        whole_utf8 r.cap (omega (arith, fits.cap)),
                        (
                          a_key (codes "weights") refl,
                          (
                            begins,
                            utf8_joined (members_tokens (legs_json tickers r.row)) _ (legs_utf8 tickers are r.row legs) (ends, tt),
                          ),
                        ),
                      ),
                    ),
                  ),
                ),
              ),
            ),
          ),
        ),
      ),
    )

    order_text : (codes "\"account\":" then decimal r.account then codes "," then answers.terms_members tickers r) ++ 125 ∷ [] ≡ print (members_tokens (order_json r))
    unfolding print_from escape_byte
    order_text =
        terms_joined (decimal r.account) (signed_decimal r.low) (signed_decimal r.high) (decimal r.rate) (decimal r.cap) (listed (leg_member tickers r.row) (length r.row))
        ∙ ap (terms_shape (decimal r.account) (signed_decimal r.low) (signed_decimal r.high) (decimal r.rate) (decimal r.cap)) (sym (legs_printed tickers are r.row _ legs))

    weights_at : (read : Members) → AreWeights tickers read r.row → AreWeights tickers (legs_data tickers r.row) r.row
    weights_at read weights = legs_weigh tickers are r.row (rises_of r.row weights.ascending) legs read weights

    place_text : echo_of tickers (Place None r) ≡ print (json_tokens (json.object (json.member (codes "do") (json.string (codes "place")) (order_json r))))
    unfolding print_from escape_byte
    place_text = ap (λ l. codes "{\"do\":\"place\"," ++ l) order_text

    pub place_asks : (read : Members) → AreWeights tickers read r.row → IsOfVersion version (Place None r) → LineAsks version tickers (echo_of tickers (Place None r)) (Alone (Place None r))
    place_asks read weights of =
        let d : Data = object (order_data r (put (codes "do") (string (codes "place")) no_members)) in
        printed_asks version tickers (Place None r) _ (json.object (json.member (codes "do") (json.string (codes "place")) (order_json r))) d place_text (tt, order_numbers) (omega (arith, order_shallow))
        (begins, (a_key (codes "do") refl, (a_text (codes "place") refl, order_utf8)))
        (ap (option_map object) (order_read (put (codes "do") (string (codes "place")) no_members))) (
          All-from_recursion (λ m. HasAt tickers d m.0 m.1) (members_of (Place None r)) (
            (string (codes "place"), refl, refl),
            (
              (number (unsigned r.account), refl, (refl, fits.account)),
              (
                (number (of_integer r.low), refl, signed_means r.low fits.low),
                (
                  (number (of_integer r.high), refl, signed_means r.high fits.high),
                  ((number (unsigned r.rate), refl, (refl, fits.rate)), ((number (unsigned r.cap), refl, refl), ((object (legs_data tickers r.row), refl, (legs_data tickers r.row, refl, weights_at read weights)), tt))),
                ),
              ),
            ),
          ),
          refl,
        )
        of

    place_until_text : (last : ℕ) → echo_of tickers (Place (Some last) r) ≡ print (json_tokens (json.object (json.member (codes "do") (json.string (codes "place")) (json.member (codes "last") (json.number (decimal last)) (order_json r)))))
    unfolding print_from escape_byte
    place_until_text last =
        last_joined (decimal last) (codes "\"account\":" then decimal r.account then codes "," then answers.terms_members tickers r)
        ∙ ap (λ l. codes "{\"do\":\"place\",\"last\":" ++ (decimal last ++ (44 ∷ l))) order_text

    pub place_until_asks : (last : ℕ) → last < 2 ^ 32 → (read : Members) → AreWeights tickers read r.row → IsOfVersion version (Place (Some last) r) → LineAsks version tickers (echo_of tickers (Place (Some last) r)) (Alone (Place (Some last) r))
    place_until_asks last small read weights of =
        let found : Members = put (codes "last") (number (unsigned last)) (put (codes "do") (string (codes "place")) no_members) in
        let d : Data = object (order_data r found) in
        printed_asks version tickers (Place (Some last) r) _ (json.object (json.member (codes "do") (json.string (codes "place")) (json.member (codes "last") (json.number (decimal last)) (order_json r)))) d (place_until_text last)
        (tt, (IsNumber-decimal last (omega arith), order_numbers)) (omega (arith, order_shallow))
        (begins, (a_key (codes "do") refl, (a_text (codes "place") refl, (a_key (codes "last") refl, (whole_utf8 last (omega arith), order_utf8)))))
        (ap (option_map object) (one_more (codes "last") (json.number (decimal last)) (order_json r) (put (codes "do") (string (codes "place")) no_members) (number (unsigned last)) (whole_back last (omega arith)) ∙ order_read found)) (
          All-from_recursion (λ m. HasAt tickers d m.0 m.1) (members_of (Place (Some last) r)) (
            (string (codes "place"), refl, refl),
            (
              (number (unsigned last), refl, (refl, small)),
              (
                (number (unsigned r.account), refl, (refl, fits.account)),
                (
                  (number (of_integer r.low), refl, signed_means r.low fits.low),
                  (
                    (number (of_integer r.high), refl, signed_means r.high fits.high),
                    ((number (unsigned r.rate), refl, (refl, fits.rate)), ((number (unsigned r.cap), refl, refl), ((object (legs_data tickers r.row), refl, (legs_data tickers r.row, refl, weights_at read weights)), tt))),
                  ),
                ),
              ),
            ),
          ),
          refl,
        )
        of
