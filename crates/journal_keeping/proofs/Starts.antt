-- How kept files and sources begin: in one way.
use Rattle.std.proofs.Common.{◌≡◌, ◌≢◌, ℕ, ◌<◌, ◌≤◌, List, [], ◌++◌, Option, Some, None, length, get_or, refl, sym, ap, ◌∙◌, arith, length-append, append_assoc}
use Rattle.std.proofs.lemmas.List.{append-nil}
use Rattle.wire_fields.specs.Numbers.{unsigned}
use Rattle.wire_records.specs.Records.{Record, head, encoding}
use Rattle.wire_records.specs.Reading.{Ending, End, Torn, TooLong, EndsAs, ReadsOn, Reading, NotFlow, File, Reads}
use Rattle.wire_records.specs.Formats.{commands, command_magic_of}
use Rattle.wire_records.proofs.RecordCode.{one_magic, command_magics, commands_readable, eight}
use Rattle.wire_records.proofs.ReadingLaws.{reads_on_one}
use Rattle.wire_records.specs.declared.version.Version.{Version}
use Rattle.wire_records.specs.declared.version.Version.TheVariants.{One}
use Rattle.market_rules.specs.Market.{Market}
use Rattle.market_snapshot.specs.Checkpoints.{checkpoint_magic, checkpoint_bytes, IsCheckpoint, HasCheckpointMagic}
use Rattle.market_snapshot.proofs.OneMarket.{one_market}
use Rattle.market_history.specs.Histories.{Start, Empty, Kept, market_of, CanStart}
use Rattle.market_history.proofs.Starting.{kept_magic}
use Rattle.journal_disk.specs.Pairs.{pair_bytes, IsWholePair}
use Rattle.journal_disk.specs.Entries.{Head}
use Rattle.journal_keeping.specs.Starts.{version_of, head_of, source_start, sources}

-- ---- checkpoints

-- a checkpoint begins with its magic
pub magic_first : (market : Market) → HasCheckpointMagic (checkpoint_bytes market)
magic_first market = kept_magic market (checkpoint_bytes market) [] (sym (append-nil (checkpoint_bytes market)))

-- what has the magic of a checkpoint has eight bytes at least
pub magic_long : (bytes : List ℕ) → HasCheckpointMagic bytes → 8 ≤ length bytes
magic_long bytes magic = omega (arith, ap length magic.1, length-append checkpoint_magic magic.0)

-- a checkpoint's first bytes can't begin an entry: they state too long a body
pub no_pair : (bytes : List ℕ) → HasCheckpointMagic bytes → ¬ IsWholePair bytes
unfolding pair_bytes encoding head unsigned
no_pair bytes magic whole =
    let first = whole.0.0 in
    let second = encoding whole.0.1 in
    let is : checkpoint_magic ++ magic.0 ≡ (unsigned 1 first.tag ++ unsigned 4 (length first.body)) ++ first.body ++ second = sym magic.1 ∙ whole.2 in
    let regrouped = is ∙ append_assoc (unsigned 1 first.tag ++ unsigned 4 (length first.body)) first.body second ∙ append_assoc (unsigned 1 first.tag) (unsigned 4 (length first.body)) (first.body ++ second) in
    stated first.tag (length first.body) magic.0 (first.body ++ second) whole.1.0.tag (omega (arith, whole.1.0.body)) regrouped
  where
    stated : (tag size : ℕ) (rest following : List ℕ) → tag < 256 → size ≤ 1024 → checkpoint_magic ++ rest ≡ unsigned 1 tag ++ (unsigned 4 size ++ following) → ⊥
    stated tag size rest following byte few e = omega (arith, few, ap (λ (l : List ℕ). get_or l 1 0) e)

-- no command file begins with the magic of a checkpoint
pub no_command : (version : Version) (bytes rest : List ℕ) → HasCheckpointMagic bytes → bytes ≢ command_magic_of version ++ rest
no_command One bytes rest magic e = absurd (omega (arith, ap (λ (l : List ℕ). get_or l 4 0) (sym magic.1 ∙ e)))
no_command version bytes rest magic e = absurd (omega (arith, ap (λ (l : List ℕ). get_or l 4 0) (sym magic.1 ∙ e)))

-- ---- kept files

-- a checkpoint is that of one market
pub one_kept_market : (m n : Market) → IsCheckpoint m (checkpoint_bytes m) → IsCheckpoint n (checkpoint_bytes n) → checkpoint_bytes m ≡ checkpoint_bytes n → m ≡ n
one_kept_market m n a b e = (one_market m n (checkpoint_bytes m) (checkpoint_bytes n) [] [] a b (ap (λ (l : List ℕ). l ++ []) e)).0

some_bytes : (a b : List ℕ) → ◌≡◌ {A = Option (List ℕ)} (Some a) (Some b) → a ≡ b
some_bytes a b e = cc

not_some : (a : List ℕ) → ◌≡◌ {A = Option (List ℕ)} None (Some a) → ⊥
not_some a e = absurd cc

-- a disk begins in one way
pub one_begin : (v w : Start) → CanStart v → CanStart w → head_of v ≡ head_of w → v ≡ w
one_begin (Empty v) (Empty w) a b e = ap (λ (x : Version). Empty x) (ap (λ (h : Head). h.version) e)
one_begin (Empty v) (Kept n) a b e = absurd (not_some (checkpoint_bytes n) (ap (λ (h : Head). h.first) e))
one_begin (Kept m) (Empty w) a b e = absurd (not_some (checkpoint_bytes m) (sym (ap (λ (h : Head). h.first) e)))
one_begin (Kept m) (Kept n) a b e = ap (λ (x : Market). Kept x) (one_kept_market m n a b (some_bytes (checkpoint_bytes m) (checkpoint_bytes n) (ap (λ (h : Head). h.first) e)))

-- a journal is of the version of its market
pub version_is : (begin : Start) → (market_of begin).version ≡ version_of begin
version_is (Empty version) = refl
version_is (Kept market) = refl

-- ---- sources

-- a source begins in one way
pub one_input : (a b : Start) (x y : List ℕ) → CanStart a → CanStart b → source_start a ++ x ≡ source_start b ++ y → (a ≡ b) × (x ≡ y)
one_input (Empty v) (Empty w) x y p q e =
    let one = one_magic command_magic_of command_magics v w x y e in
    (ap (λ (u : Version). Empty u) one.0, one.1)
one_input (Empty v) (Kept n) x y p q e =
    absurd (no_command v (command_magic_of v ++ x) x (kept_magic n (command_magic_of v ++ x) (command_magic_of n.version ++ y) (e ∙ append_assoc (checkpoint_bytes n) (command_magic_of n.version) y)) refl)
one_input (Kept m) (Empty w) x y p q e =
    absurd (no_command w (command_magic_of w ++ y) y (kept_magic m (command_magic_of w ++ y) (command_magic_of m.version ++ x) (sym e ∙ append_assoc (checkpoint_bytes m) (command_magic_of m.version) x)) refl)
one_input (Kept m) (Kept n) x y p q e =
    let regrouped = sym (append_assoc (checkpoint_bytes m) (command_magic_of m.version) x) ∙ e ∙ append_assoc (checkpoint_bytes n) (command_magic_of n.version) y in
    let one = one_market m n (checkpoint_bytes m) (checkpoint_bytes n) (command_magic_of m.version ++ x) (command_magic_of n.version ++ y) p q regrouped in
    let magic = one_magic command_magic_of command_magics m.version n.version x y one.1 in
    (ap (λ (k : Market). Kept k) one.0, magic.1)

-- each beginning has eight bytes at least
pub input_long : (input : Start) → 8 ≤ length (source_start input)
input_long (Empty version) = omega (arith, eight version)
input_long (Kept market) = omega (arith, length-append (checkpoint_bytes market) (command_magic_of market.version), eight market.version)

-- the ending of commands is that of a source
ends_of : (More : Type 0) (rest : List ℕ) (place : ℕ) (ending : Ending) → EndsAs commands More rest place ending → EndsAs sources More rest place ending
ends_of More rest place End ends = ends
ends_of More rest place TooLong ends = ends
ends_of More rest place (Torn n) ends = ends

ends_from : (More : Type 0) (rest : List ℕ) (place : ℕ) (ending : Ending) → EndsAs sources More rest place ending → EndsAs commands More rest place ending
ends_from More rest place End ends = ends
ends_from More rest place TooLong ends = ends
ends_from More rest place (Torn n) ends = ends

-- commands that are read on are those of a source
pub of_source : (place : ℕ) (More : Type 0) (bytes : List ℕ) (units : List Record) (ending : Ending) → ReadsOn commands place More bytes units ending → ReadsOn sources place More bytes units ending
of_source place More bytes units ending reads = record { rest = reads.rest; whole = reads.whole; each = reads.each; none = reads.none; ends = ends_of More reads.rest _ ending reads.ends }

pub of_commands : (place : ℕ) (More : Type 0) (bytes : List ℕ) (units : List Record) (ending : Ending) → ReadsOn sources place More bytes units ending → ReadsOn commands place More bytes units ending
of_commands place More bytes units ending reads = record { rest = reads.rest; whole = reads.whole; each = reads.each; none = reads.none; ends = ends_from More reads.rest _ ending reads.ends }

-- a source has one reading
pub one_reading : (limit : ℕ) (bytes : List ℕ) (r s : Reading Start Record) → Reads sources limit bytes r → Reads sources limit bytes s → r ≡ s
one_reading limit bytes NotFlow NotFlow a b = refl
one_reading limit bytes NotFlow (File w q f) a b = absurd (a w b.0 b.1.0 b.1.1)
one_reading limit bytes (File v p e) NotFlow a b = absurd (b v a.0 a.1.0 a.1.1)
one_reading limit bytes (File v p e) (File w q f) a b =
    let begun = one_input v w a.0 b.0 a.1.0 b.1.0 (sym a.1.1 ∙ b.1.1) in
    let size = length (source_start w) in
    let here : ReadsOn sources size (limit < length bytes) b.0 p e = rw (← begun.0, ← begun.1) a.2 in
    let on = reads_on_one commands commands_readable size (limit < length bytes) b.0 p q e f (of_commands size (limit < length bytes) b.0 p e here) (of_commands size (limit < length bytes) b.0 q f b.2) in
    rw (begun.0, on.0, on.1) refl
