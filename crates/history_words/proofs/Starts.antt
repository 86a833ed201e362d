-- Bytes begin a history in one way, and result in one end and one text of a subcommand over its entries.
use Rattle.std.proofs.Common.{◌≡◌, ◌⊎◌, ◌+◌, ℕ, List, ◌++◌, Bool, true, false, inl, inr, length, take, drop, get_or, refl, sym, ap, ◌∙◌, subst, arith}
use Rattle.std.specs.Str.{bytes_eq}
use Rattle.std.proofs.lemmas.Bool.{false≢true}
use Rattle.std.proofs.lemmas.List.{take-append-drop, take_at}
use Rattle.std.proofs.lemmas.Slice.Eq.{bytes_eq-Decides}
use Rattle.wire_records.specs.Records.{Record}
use Rattle.wire_records.specs.Grammars.{BeginsWith}
use Rattle.wire_records.specs.declared.version.Version.{Version}
use Rattle.journal_records.specs.Formats.{journal_magic_of}
use Rattle.journal_records.proofs.Files.{journals_readable}
use Rattle.market_rules.specs.Market.{Market, empty_market}
use Rattle.market_snapshot.specs.Checkpoints.{checkpoint_magic, checkpoint_bytes, HasCheckpointMagic}
use Rattle.market_snapshot.proofs.OneMarket.{one_market}
use Rattle.market_history.specs.Histories.{Start, Empty, Kept, CanStart, market_of, encode_start, starts}
use Rattle.market_history.proofs.Starting.{kept_magic}
use Rattle.word_driver.specs.Ended.{Ended}
use Rattle.word_driver.specs.Word.{Word, ComesOn}
use Rattle.word_driver.specs.Laws.{IsExact}
use Rattle.word_driver.proofs.OneEnds.{comes_on_one}
use Rattle.history_words.specs.declared.stop.HistoryStop.{HistoryStop}
use Rattle.history_words.specs.Histories.{following, Beginning, ComesFrom}

-- no journal begins as a checkpoint: the fifth byte of its magic is J
fifth : (version : Version) (body : List ℕ) → get_or (journal_magic_of version ++ body) 4 0 ≡ 74
fifth version body = refl

pub other_magics : (version : Version) (bytes body : List ℕ) → bytes ≡ journal_magic_of version ++ body → HasCheckpointMagic bytes → ⊥
other_magics version bytes body journal (rest, checkpoint) =
    let here : 74 ≡ 83 = sym (fifth version body) ∙ ap (λ (xs : List ℕ). get_or xs 4 0) (sym journal ∙ checkpoint) in
    omega (arith, here)

-- the bytes begin with the magic of a checkpoint, or they don't
magic_by : (bytes : List ℕ) (r : Bool) → (r ≡ true → take 8 bytes ≡ checkpoint_magic) → (take 8 bytes ≡ checkpoint_magic → r ≡ true) → HasCheckpointMagic bytes ⊎ (¬ HasCheckpointMagic bytes)
magic_by bytes true to back = inl (drop 8 bytes, sym (take-append-drop 8 bytes) ∙ ap (λ xs. xs ++ drop 8 bytes) (to refl))
magic_by bytes false to back = inr (λ magic. false≢true (back (ap (take 8) magic.1 ∙ take_at checkpoint_magic magic.0 8 refl)))

pub magic_or_not : (bytes : List ℕ) → HasCheckpointMagic bytes ⊎ (¬ HasCheckpointMagic bytes)
magic_or_not bytes =
    let is = bytes_eq-Decides (take 8 bytes) checkpoint_magic in
    magic_by bytes (bytes_eq (take 8 bytes) checkpoint_magic) is.0 is.1

-- bytes begin with at most one beginning of a history, and leave one rest
pub one_start : (a b : Start) (x y : List ℕ) → CanStart a → CanStart b → encode_start a ++ x ≡ encode_start b ++ y → (a ≡ b) × (x ≡ y)
one_start (Empty v) (Empty u) x y p q e =
    let one = journals_readable.magics.one v u x y tt tt e in
    (ap (λ (z : Version). Empty z) one.0, one.1)
one_start (Kept m) (Kept n) x y p q e =
    let one = one_market m n (checkpoint_bytes m) (checkpoint_bytes n) x y p q e in
    (ap (λ (z : Market). Kept z) one.0, one.1)
one_start (Empty v) (Kept n) x y p q e = absurd (other_magics v (journal_magic_of v ++ x) x refl (kept_magic n (journal_magic_of v ++ x) y e))
one_start (Kept m) (Empty u) x y p q e = absurd (other_magics u (journal_magic_of u ++ y) y refl (kept_magic m (journal_magic_of u ++ y) x (sym e)))

module _ {S B : Type 0} (w : Word (Record × Record) S B) (begins : Beginning S) (exact : IsExact w) where
  -- two beginnings of a history are one, and so what follows results in the same
  pub moved : (a b : Start) (x y bytes : List ℕ) (More : Type 0) (inner : Ended B) (text : List ℕ) → BeginsWith starts bytes a x → BeginsWith starts bytes b y
      → ComesOn w More (length (starts.encode b)) y (begins.starts (market_of b)) inner text → ComesOn w More (length (starts.encode a)) x (begins.starts (market_of a)) inner text
  moved a b x y bytes More inner text here there on =
      let one = one_start a b x y here.0 there.0 (sym here.1 ∙ there.1) in
      subst (λ (z : Start). ComesOn w More (length (starts.encode z)) x (begins.starts (market_of z)) inner text) (sym one.0)
      (subst (λ (xs : List ℕ). ComesOn w More (length (starts.encode b)) xs (begins.starts (market_of b)) inner text) (sym one.1) on)

  pub comes_one : (bytes : List ℕ) (More : Type 0) (e f : Ended (HistoryStop B)) (x y : List ℕ) → ComesFrom w begins bytes More e x → ComesFrom w begins bytes More f y → (e ≡ f) × (x ≡ y)
  comes_one bytes More e f x y (inl a) (inl b) = (a.1 ∙ sym b.1, a.2 ∙ sym b.2)
  comes_one bytes More e f x y (inl a) (inr (inl b)) = absurd (a.0.1 b.0.1)
  comes_one bytes More e f x y (inl a) (inr (inr (start, body, rest, begin, words, inner, on, is))) = absurd (a.0.0 start body begin.0 begin.1)
  comes_one bytes More e f x y (inr (inl a)) (inl b) = absurd (b.0.1 a.0.1)
  comes_one bytes More e f x y (inr (inl a)) (inr (inl b)) = (a.1 ∙ sym b.1, a.2 ∙ sym b.2)
  comes_one bytes More e f x y (inr (inl a)) (inr (inr (start, body, rest, begin, words, inner, on, is))) = absurd (a.0.0 start body begin.0 begin.1)
  comes_one bytes More e f x y (inr (inr (start, body, rest, begin, words, inner, on, is))) (inl b) = absurd (b.0.0 start body begin.0 begin.1)
  comes_one bytes More e f x y (inr (inr (start, body, rest, begin, words, inner, on, is))) (inr (inl b)) = absurd (b.0.0 start body begin.0 begin.1)
  comes_one bytes More e f x y (inr (inr (v, body, rest, first, text, inner, on, is))) (inr (inr (u, other, words, begin, also_text, also, goes, there))) =
      let begun = one_start v u body other first.0 begin.0 (sym first.1 ∙ begin.1) in
      let same = comes_on_one w (λ (version : Version). begins.starts (empty_market version)) exact More (length (starts.encode v)) body (begins.starts (market_of v)) inner also rest words on (moved v u body other bytes More also words first begin goes) in
      (is ∙ ap following same.0 ∙ sym there, text ∙ ap (λ (z : Start). begins.opens (market_of z) ++ rest) begun.0 ∙ ap (λ (xs : List ℕ). begins.opens (market_of u) ++ xs) same.1 ∙ sym also_text)
