-- Outcomes of batches from their encodings.
use Rattle.std.proofs.Common.{◌≡◌, ◌+◌, ◌*◌, ℕ, ℤ, List, [], ◌++◌, All, length, length-append, append_assoc, sym, ap, ◌∙◌, arith}
use Rattle.std.specs.List.{flat_map}
use Rattle.std.proofs.lemmas.List.{append-nil}
use Rattle.wire_fields.specs.Numbers.{unsigned, signed, IsUnsigned, IsSigned}
use Rattle.wire_fields.proofs.Encoding.{length-unsigned, length-signed, unsigned_unique, signed_unique}
use Rattle.wire_records.proofs.CodeLaws.{counted_unique, counted_size}
use Rattle.flow_orders.specs.Outcomes.{Fill, Clearing, Skipping}
use Rattle.journal_records.specs.Bodies.{fill_encoding, clearing_encoding, skipping_encoding, IsFill, IsClearing, IsSkipping}

-- a fill from its parts
same_fill : (f g : Fill) → f.order ≡ g.order → f.rate ≡ g.rate → f ≡ g
same_fill f g a b =
    let made : ℕ → ℕ → Fill = λ order rate. record { order = order; rate = rate } in
    ap (λ order. made order f.rate) a ∙ ap (λ rate. made g.order rate) b

-- bytes that begin with two fills begin with one
pub fill_unique : (f g : Fill) (x y : List ℕ) → IsFill f → IsFill g → fill_encoding f ++ x ≡ fill_encoding g ++ y → (f ≡ g) × (x ≡ y)
unfolding fill_encoding
fill_unique f g x y h k same =
    let regrouped = sym (append_assoc (unsigned 8 f.order) (unsigned 4 f.rate) x) ∙ same ∙ append_assoc (unsigned 8 g.order) (unsigned 4 g.rate) y in
    let orders = unsigned_unique 8 f.order g.order _ _ h.0 k.0 regrouped in
    let rates = unsigned_unique 4 f.rate g.rate x y h.1 k.1 orders.1 in
    (same_fill f g orders.0 rates.0, rates.1)

-- twelve bytes a fill
pub fill_size : (f : Fill) → length (fill_encoding f) ≡ 12
unfolding fill_encoding
fill_size f = simp (length-append, length-unsigned)

-- bytes that begin with as many numbers with a sign begin with the same ones
signs_unique : (p q : List ℤ) (x y : List ℕ) → All (IsSigned 8) p → All (IsSigned 8) q → length p ≡ length q → flat_map (signed 8) p ++ x ≡ flat_map (signed 8) q ++ y → (p ≡ q) × (x ≡ y)
signs_unique = counted_unique (IsSigned 8) (signed 8) (λ a b x y h k e. signed_unique 8 a b x y (omega arith) h k e)

-- a clearing from its parts
same_clearing : (c d : Clearing) → c.prices ≡ d.prices → c.fills ≡ d.fills → c.residuals ≡ d.residuals → c.gap ≡ d.gap → c ≡ d
same_clearing c d prices fills residuals gap =
    let made : List ℤ → List Fill → List ℤ → ℤ → Clearing = λ p f r g. record { prices = p; fills = f; residuals = r; gap = g } in
    ap (λ p. made p c.fills c.residuals c.gap) prices ∙ ap (λ f. made d.prices f c.residuals c.gap) fills
    ∙ ap (λ r. made d.prices d.fills r c.gap) residuals ∙ ap (λ g. made d.prices d.fills d.residuals g) gap

-- a number with a sign that is all of the rest is read in one way
gap_unique : (a b : ℤ) → IsSigned 16 a → IsSigned 16 b → signed 16 a ≡ signed 16 b → a ≡ b
gap_unique a b h k e =
    let found = signed_unique 16 a b [] [] (omega arith) h k (append-nil (signed 16 a) ∙ e ∙ sym (append-nil (signed 16 b))) in
    found.0

-- two clearings with one encoding are equal
pub clearing_unique : (m n : ℕ) (c d : Clearing) → IsUnsigned 4 m → IsUnsigned 4 n → IsClearing c → IsClearing d → clearing_encoding m c ≡ clearing_encoding n d → (m ≡ n) × (c ≡ d)
unfolding clearing_encoding
clearing_unique m n c d in_m in_n h k same =
    let numbers = unsigned_unique 4 m n _ _ in_m in_n same in
    let counts = unsigned_unique 2 (length c.prices) (length d.prices) _ _ h.count k.count numbers.1 in
    let prices = signs_unique c.prices d.prices _ _ h.prices k.prices counts.0 counts.1 in
    let fill_counts = unsigned_unique 4 (length c.fills) (length d.fills) _ _ h.fill_count k.fill_count prices.1 in
    let fills = counted_unique IsFill fill_encoding fill_unique c.fills d.fills _ _ h.fills k.fills fill_counts.0 fill_counts.1 in
    let residuals = signs_unique c.residuals d.residuals _ _ h.residuals k.residuals (h.residual_each ∙ counts.0 ∙ sym k.residual_each) fills.1 in
    (numbers.0, same_clearing c d prices.0 fills.0 residuals.0 (gap_unique c.gap d.gap h.gap k.gap residuals.1))

-- a skip from its parts
same_skipping : (s t : Skipping) → s.trace ≡ t.trace → s.start_dual ≡ t.start_dual → s.end_dual ≡ t.end_dual → s ≡ t
same_skipping s t trace start_dual end_dual =
    let made : List ℕ → ℤ → ℤ → Skipping = λ w a b. record { trace = w; start_dual = a; end_dual = b } in
    ap (λ w. made w s.start_dual s.end_dual) trace ∙ ap (λ a. made t.trace a s.end_dual) start_dual ∙ ap (λ b. made t.trace t.start_dual b) end_dual

-- two skips with one encoding are equal
pub skipping_unique : (m n : ℕ) (s t : Skipping) → IsUnsigned 4 m → IsUnsigned 4 n → IsSkipping s → IsSkipping t → skipping_encoding m s ≡ skipping_encoding n t → (m ≡ n) × (s ≡ t)
unfolding skipping_encoding
skipping_unique m n s t in_m in_n h k same =
    let numbers = unsigned_unique 4 m n _ _ in_m in_n same in
    let starts = signed_unique 16 s.start_dual t.start_dual _ _ (omega arith) h.start_dual k.start_dual numbers.1 in
    let ends = signed_unique 16 s.end_dual t.end_dual _ _ (omega arith) h.end_dual k.end_dual starts.1 in
    let steps = unsigned_unique 4 (length s.trace) (length t.trace) s.trace t.trace h.steps k.steps ends.1 in
    (numbers.0, same_skipping s t steps.1 starts.0 ends.0)

-- 26 bytes, eight for each price and imbalance, and twelve for each fill
pub clearing_size : (number : ℕ) (c : Clearing) → length (clearing_encoding number c) ≡ 26 + 8 * length c.prices + 12 * length c.fills + 8 * length c.residuals
unfolding clearing_encoding
clearing_size number c =
    let prices = counted_size (signed 8) 8 (length-signed 8) c.prices in
    let fills = counted_size fill_encoding 12 fill_size c.fills in
    let residuals = counted_size (signed 8) 8 (length-signed 8) c.residuals in
    simp (length-append, length-unsigned, length-signed) (omega (arith, prices, fills, residuals))

-- 40 bytes, and one for each move
pub skipping_size : (number : ℕ) (s : Skipping) → length (skipping_encoding number s) ≡ 40 + length s.trace
unfolding skipping_encoding
skipping_size number s = simp (length-append, length-unsigned, length-signed) (omega arith)
