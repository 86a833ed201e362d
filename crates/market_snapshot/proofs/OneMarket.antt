-- Bytes begin with a checkpoint of at most one market, and reading finds it.
use Rattle.std.proofs.Common.{◌≡◌, ◌^◌, ◌<◌, ◌≤◌, ℕ, List, ◌++◌, length, take, Err, length-append, sym, ap, ◌∙◌, subst, arith}
use Rattle.std.specs.Prelude.{All}
use Rattle.std.proofs.lemmas.List.Elements.{All-map}
use Rattle.std.proofs.Math.Seq.{take-append_seam}
use Rattle.flow_orders.specs.Orders.{Order, IsOrder}
use Rattle.market_rules.specs.Market.{Market, IsConsistent}
use Rattle.market_parts.specs.Parts.{Parts, order_of, HasParts, AreConsistent}
use Rattle.market_snapshot.specs.Checkpoints.{checkpoint_bytes, IsCheckpoint, BeginsWithNoCheckpoint}
use Rattle.market_snapshot.specs.Encodings.{parts_of_market, parts_encoding, market_encoding}
use Rattle.market_snapshot.specs.declared.reading.SnapshotFault.{SnapshotFault}
use Rattle.market_snapshot.specs.declared.reading.SnapshotFault.TheVariants.{NotSound, Memory}
use Rattle.market_snapshot.specs.Answers.{IsMarketRead, WhereNotSound}
use Rattle.market_snapshot.specs.Widths.{FitWidths}
use Rattle.market_snapshot.specs.Layout.{BeginsWithNoParts}
use Rattle.market_snapshot.proofs.FieldForms.{market_is_plain}
use Rattle.market_snapshot.proofs.OneParts.{parts_unique}
use Rattle.market_snapshot.proofs.Ticks.{has_parts, own_parts, same_market}
use Rattle.market_snapshot.proofs.ConsistentFits.{consistent_fits}

-- the orders of a consistent market are orders
are_orders : (m : Market) → IsConsistent m → All IsOrder m.orders
are_orders m consistent i d inside = (consistent.live i d inside).order

pub fitting : (m : Market) (bytes : List ℕ) → IsCheckpoint m bytes → FitWidths (parts_of_market m)
fitting m bytes is = consistent_fits m is.consistent is.next is.last

pub encoded : (m : Market) (bytes : List ℕ) → IsCheckpoint m bytes → bytes ≡ parts_encoding (parts_of_market m)
unfolding market_encoding
encoded m bytes is = is.encoded ∙ market_is_plain m

-- bytes begin with a checkpoint of one market
pub one_market : (m n : Market) (p q x y : List ℕ) → IsCheckpoint m p → IsCheckpoint n q → p ++ x ≡ q ++ y → (m ≡ n) × (x ≡ y)
one_market m n p q x y a b e =
    let same = parts_unique (parts_of_market m) (parts_of_market n) x y (fitting m p a) (fitting n q b) (ap (λ z. z ++ x) (sym (encoded m p a)) ∙ e ∙ ap (λ z. z ++ y) (encoded n q b)) in
    let has_m = subst (λ p. HasParts p m) same.0 (has_parts m (are_orders m a.consistent)) in
    (same_market (parts_of_market n) m n has_m (has_parts n (are_orders n b.consistent)), same.1)

-- bytes that don't begin with parts that fit don't begin with a checkpoint
pub no_checkpoint : (bytes : List ℕ) → BeginsWithNoParts bytes → BeginsWithNoCheckpoint bytes
no_checkpoint bytes none m prefix rest is e = none (parts_of_market m) rest (fitting m prefix is) (e ∙ ap (λ z. z ++ rest) (encoded m prefix is))

-- bytes whose parts aren't consistent don't begin with a checkpoint
pub unsound : (p : Parts) (bytes rest : List ℕ) → FitWidths p → bytes ≡ parts_encoding p ++ rest → ¬ AreConsistent p → BeginsWithNoCheckpoint bytes
unsound p bytes rest fits begins not m prefix more is e =
    let same = parts_unique (parts_of_market m) p more rest (fitting m prefix is) fits (ap (λ z. z ++ more) (sym (encoded m prefix is)) ∙ sym e ∙ begins) in
    not (subst AreConsistent same.0 (record { market = m; parts = has_parts m (are_orders m is.consistent); consistent = is.consistent; next = is.next }))

-- a market of consistent parts with which the bytes begin
found_encoded : (p : Parts) (m : Market) (bytes rest : List ℕ) → HasParts p m → bytes ≡ parts_encoding p ++ rest → take (length (parts_encoding p)) bytes ≡ checkpoint_bytes m
unfolding market_encoding
found_encoded p m bytes rest has begins = ap (take (length (parts_encoding p))) begins ∙ take-append_seam (parts_encoding p) rest ∙ ap parts_encoding (sym (own_parts p m has)) ∙ sym (market_is_plain m)

pub found : (p : Parts) (m : Market) (bytes rest : List ℕ) → FitWidths p → bytes ≡ parts_encoding p ++ rest → HasParts p m → AreConsistent p → IsCheckpoint m (take (length (parts_encoding p)) bytes) × (length (parts_encoding p) ≤ length bytes)
found p m bytes rest fits begins has are =
    let same : are.market ≡ m = same_market p are.market m are.parts has in (
      record {
        consistent = subst IsConsistent same are.consistent;
        next = subst (λ (n : Market). n.next_order < 2 ^ 63) (sym has.market) are.next;
        last = subst (λ (n : Market). All (λ (o : Order). o.last < 2 ^ 32) n.orders) (sym has.market) (All-map (λ (o : Order). o.last < 2 ^ 32) order_of p.orders (λ i d inside. (fits.orders i d inside).last));
        encoded = found_encoded p m bytes rest has begins;
      },
      omega (arith, ap length begins, length-append (parts_encoding p) rest),
    )

-- the answer if there is no view
pub no_view : (fault : SnapshotFault) (bytes : List ℕ) → WhereNotSound fault (BeginsWithNoParts bytes) → IsMarketRead bytes (Err fault)
no_view NotSound bytes none = no_checkpoint bytes none
no_view Memory bytes none = tt
