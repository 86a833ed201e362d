-- What a window holds after one read and after several.
use Rattle.std.proofs.Common.{◌≡◌, ◌≢◌, ◌⊎◌, inl, inr, ◌+◌, ◌-◌, ◌≤◌, ◌<◌, ℕ, List, [], ◌++◌, Option, Some, None, IfSome, Result, Ok, Err, IsOk, is_ok, if◌then◌else◌, length, take, drop, slice_range, refl, sym, ap, subst, ◌∙◌, arith, append_assoc, append-nil, length-append}
use Rattle.std.proofs.lemmas.Bool.{false≢true}
use Rattle.std.proofs.lemmas.List.{take_at, take_all, drop_at, take-append-le, drop-append-le, drop-take, drop-drop, length-take-le, length-drop}
use borrow.Rule.Slice.PartMut.{put_mid, post_of}
use lib.Seq.{take-add}
use Rattle.flow_io.specs.declared.window.InputEnd.{InputEnd}
use Rattle.flow_io.specs.declared.window.InputEnd.TheVariants.{Source, Limit}
use Rattle.flow_io.specs.Streams.{Takes}
use Rattle.flow_io.specs.Windows.{WindowState, IsPast, Fills}
use Rattle.flow_io.proofs.Reading.{Takes-more}

-- ---- the bytes between two places of a block

-- a write after the bytes of the range
pub grown : (xs ys : List ℕ) (start end k n : ℕ) → start ≤ end → end ≤ length xs → n ≤ length ys
    → slice_range (put_mid end k xs ys) start (end + n) ≡ slice_range xs start end ++ take n ys
grown xs ys start end k n ordered within fits =
    let prefix = length-take-le end xs within in
    let held = drop start (take end xs) in
    let len : length held ≡ end - start = omega (arith, length-drop start (take end xs)) in
    let sum : end + n - start ≡ (end - start) + n = omega arith in
    let parts : end ≡ start + (end - start) = omega arith in
    let same : held ≡ take (end - start) (drop start xs) = ap (λ j. drop start (take j xs)) parts ∙ drop-take start (end - start) xs in
    let after = ys ++ post_of end k xs in
    ap (take (end + n - start)) (drop-append-le start (take end xs) after (omega arith))
    ∙ ap (λ j. take j (held ++ after)) sum ∙ take-add (end - start) n (held ++ after)
    ∙ (rw (take_at held after _ len, drop_at held after _ len, take-append-le n ys (post_of end k xs) fits, same) refl)

pub kept : (xs ys : List ℕ) (start end k : ℕ) → start ≤ end → end ≤ length xs → slice_range (put_mid end k xs ys) start end ≡ slice_range xs start end
kept xs ys start end k ordered within =
    let none : end ≡ end + 0 = omega arith in
    ap (slice_range (put_mid end k xs ys) start) none ∙ grown xs ys start end k 0 ordered within (omega arith) ∙ append-nil _

-- a write after the bytes of a vector, into room that was laid out after them
pub behind : (old zeros xs ys : List ℕ) (end k n : ℕ) → end ≡ length old → xs ≡ old ++ zeros → n ≤ length ys → take (end + n) (put_mid end k xs ys) ≡ old ++ take n ys
behind old zeros xs ys end k n long filled fits =
    let within : end ≤ length xs = omega (arith, long, ap length filled, length-append old zeros) in
    let all : end + n ≡ end + n - 0 = omega arith in
    let first : end - 0 ≡ end = omega arith in
    ap (λ j. take j (put_mid end k xs ys)) all ∙ grown xs ys 0 end k n (omega arith) within fits
    ∙ ap (λ l. l ++ take n ys) (ap (λ j. take j xs) first ∙ ap (take end) filled ∙ take_at old zeros end (sym long))

-- room was laid out after the bytes of a vector
pub laid_out : {T E : Type 0} (result : Result T E) (old now first zeros : List ℕ) (m : ℕ) → IsOk result → first ≡ old → length old ≤ m → now ≡ (if is_ok result then take m first ++ zeros else first) → now ≡ old ++ zeros
laid_out (Ok _) old now first zeros m done same long is = is ∙ ap (λ l. l ++ zeros) (ap (take m) same ∙ take_all m old long)
laid_out (Err _) old now first zeros m done same long is = absurd (false≢true done)

-- the first bytes of the range are given up
pub consumed : (xs : List ℕ) (start end count : ℕ) → start + count ≤ end → slice_range xs (start + count) end ≡ drop count (slice_range xs start end)
consumed xs start end count inside =
    let parts : end - start ≡ count + (end - (start + count)) = omega arith in
    sym (ap (λ j. drop count (take j (drop start xs))) parts ∙ drop-take count _ (drop start xs)
    ∙ ap (take (end - (start + count))) (drop-drop count start xs))

-- ---- reads, one after the other

Takes-nothing : (told : Option (List ℕ)) → Takes told told []
Takes-nothing None = tt
Takes-nothing (Some left) = refl

none_past : (over : Option InputEnd) → IsPast over over []
none_past None = refl
none_past (Some end) = refl

pub fills_nothing : (w : WindowState) (told : Option (List ℕ)) → Fills w w told told
fills_nothing w told = record {
  joined = [];
  past = [];
  holds = ap (λ (xs : List ℕ). record w { held = xs }) (sym (append-nil w.held));
  taken = Takes-nothing told;
  beyond = none_past w.over;
}

pub fills_more : (a b c : WindowState) (x y z : Option (List ℕ)) → a.over ≡ None → b.over ≡ None → Fills a b x y → Fills b c y z → Fills a c x z
fills_more a b c x y z none still one two =
    let past : one.past ≡ [] = subst (λ (was : Option InputEnd). IsPast was None one.past) none (subst (λ (now : Option InputEnd). IsPast a.over now one.past) still one.beyond) in
    record {
      joined = one.joined ++ two.joined;
      past = two.past;
      holds = two.holds ∙ ap (λ (w : WindowState). record w { held = w.held ++ two.joined; over = c.over }) one.holds ∙ ap (λ (xs : List ℕ). record a { held = xs; over = c.over }) (append_assoc a.held one.joined two.joined);
      taken = subst (λ (xs : List ℕ). Takes x z xs) (sym (append_assoc one.joined two.joined two.past)) (Takes-more x y z one.joined (two.joined ++ two.past) (subst (λ (xs : List ℕ). Takes x y xs) (ap (λ xs. one.joined ++ xs) past ∙ append-nil one.joined) one.taken) two.taken);
      beyond = subst (λ (was : Option InputEnd). IsPast was c.over two.past) (still ∙ sym none) two.beyond;
    }

-- nothing changed
pub stayed : (was inside : WindowState) (held : List ℕ) (room : ℕ) (x y : Option (List ℕ)) → inside ≡ was → held ≡ inside.held → room ≡ inside.room → y ≡ x → Fills was (record inside { held = held; room = room }) x y
stayed was inside held room x y is same size told =
    rw (same, size, told) (subst (λ (w : WindowState). Fills was w x x) (sym is) (fills_nothing was x))

-- some bytes came, or none and so the source has ended
not_past : (over : Option InputEnd) → over ≢ Some Limit → IsPast None over []
not_past None not = refl
not_past (Some Source) not = refl
not_past (Some Limit) not = absurd (not refl)

pub read_on : (was inside : WindowState) (held more : List ℕ) (room : ℕ) (over : Option InputEnd) (x y : Option (List ℕ)) → inside ≡ was → was.over ≡ None → held ≡ inside.held ++ more → room ≡ inside.room → Takes x y more → over ≢ Some Limit
    → Fills was (record inside { held = held; room = room; over = over }) x y
read_on was inside held more room over x y is none longer size taken not = record {
  joined = more;
  past = [];
  holds = rw (longer, size) (ap (λ (w : WindowState). record w { held = w.held ++ more; over = over }) is);
  taken = subst (λ (xs : List ℕ). Takes x y xs) (sym (append-nil more)) taken;
  beyond = subst (λ (was : Option InputEnd). IsPast was over []) (sym none) (not_past over not);
}

-- one more byte was looked for
pub looked : (was inside : WindowState) (over : Option InputEnd) (into : List ℕ) (count : ℕ) (x y : Option (List ℕ)) → inside ≡ was → was.over ≡ None → Takes x y (take count into) → count ≤ length into → count ≤ 1
    → ((count ≡ 0) × (over ≡ Some Source)) ⊎ ((count ≢ 0) × (over ≡ Some Limit)) → Fills was (record inside { over = over }) x y
looked was inside over into count x y is none taken bound one how = record {
  joined = [];
  past = take count into;
  holds = ap (λ (w : WindowState). record w { over = over }) is ∙ ap (λ (xs : List ℕ). record was { held = xs; over = over }) (sym (append-nil was.held));
  taken = taken;
  beyond = subst (λ (was : Option InputEnd). IsPast was over (take count into)) (sym none) (
      elim how [
        | inl (few, seen) ↦ subst (λ (now : Option InputEnd). IsPast None now (take count into)) (sym seen) (ap (λ (n : ℕ). take n into) few)
        | inr (some, seen) ↦ subst (λ (now : Option InputEnd). IsPast None now (take count into)) (sym seen) (length-take-le count into bound ∙ omega (arith, some, one))
      ]
      );
}

-- ---- the loop

-- one more read may see how the input ends
abbrev pub left_open : Option InputEnd → ℕ
left_open None = 1
left_open (Some end) = 0

closed : (over : Option InputEnd) → over ≢ None → left_open over ≡ 0
closed None not = absurd (not refl)
closed (Some end) not = refl

at_most_one : (over : Option InputEnd) → left_open over ≤ 1
at_most_one None = omega arith
at_most_one (Some end) = omega arith

pub still_open : (over : Option InputEnd) → (over ≢ None → ⊥) → over ≡ None
still_open None not = refl
still_open (Some end) not = absurd (not (λ e. absurd cc))

-- What a window has read so far, from when it was `first`.
pub record HasFilled {S : Type 0} (rest : S → Option (List ℕ)) (faults : S → ℕ) (want : ℕ) (first now : WindowState) (from source : S) : Type 0 where
  pub fills : Fills first now (rest from) (rest source)
  pub ended : now.over ≡ Some Source → IfSome (rest source) (λ left. left ≡ [])
  pub quiet : faults source ≡ faults from
  pub over : first.over ≢ None → (now ≡ first) × (source ≡ from)
  -- the end of the input is seen only if too few bytes are held
  pub few : (now.over ≡ first.over) ⊎ (length now.held < want)

-- if a read saw the end, no more bytes are held than before it
seen_where_few : (over first : Option InputEnd) (held less : List ℕ) (want : ℕ) → first ≡ None → (over ≢ None → held ≡ less) → length less < want → (over ≡ first) ⊎ (length held < want)
seen_where_few None first held less want none same few = inl (sym none)
seen_where_few (Some end) first held less want none same few = inr (omega (arith, ap length (same (λ e. absurd cc)), few))

module _ {S : Type 0} (rest : S → Option (List ℕ)) (faults : S → ℕ) (want : ℕ) where
  pub filled_nothing : (w : WindowState) (s : S) → (w.over ≡ Some Source → IfSome (rest s) (λ left. left ≡ [])) → HasFilled rest faults want w w s s
  filled_nothing w s ended = record { fills = fills_nothing w (rest s); ended = ended; quiet = refl; over = λ not. (refl, refl); few = inl refl }

  first_open : (first now : WindowState) (from s : S) → HasFilled rest faults want first now from s → now.over ≡ None → first.over ≡ None
  first_open first now from s so none = still_open first.over (λ not. not (ap (λ (w : WindowState). w.over) (sym (so.over not).0) ∙ none))

  pub filled_more : (first a b : WindowState) (from s t : S) → HasFilled rest faults want first a from s → a.over ≡ None → Fills a b (rest s) (rest t) → (b.over ≡ Some Source → IfSome (rest t) (λ left. left ≡ [])) → faults t ≡ faults s
      → (b.over ≢ None → b.held ≡ a.held) → length a.held < want → HasFilled rest faults want first b from t
  filled_more first a b from s t so none fills ended quiet still less =
      let open_first = first_open first a from s so none in
      record {
        fills = fills_more first a b (rest from) (rest s) (rest t) open_first none so.fills fills;
        ended = ended;
        quiet = quiet ∙ so.quiet;
        over = λ not. absurd (not open_first);
        few = seen_where_few b.over first.over b.held a.held want open_first still less;
      }

  -- a read that failed
  pub fills_to : (first a b : WindowState) (from s t : S) → HasFilled rest faults want first a from s → a.over ≡ None → Fills a b (rest s) (rest t) → Fills first b (rest from) (rest t)
  fills_to first a b from s t so none fills = fills_more first a b (rest from) (rest s) (rest t) (first_open first a from s so none) none so.fills fills

-- each read but the last appends some bytes
pub falls : (a b : WindowState) (x y : Option (List ℕ)) (want : ℕ) → a.over ≡ None → Fills a b x y → (b.over ≢ None) ⊎ (length a.held < length b.held) → length a.held < want → want ≤ a.room
    → (b.room - length b.held) + left_open b.over < (a.room - length a.held) + left_open a.over
falls a b x y want none fills further less room =
    let size : b.room ≡ a.room = ap (λ (w : WindowState). w.room) fills.holds in
    let longer : length b.held ≡ length a.held + length fills.joined = ap (λ (w : WindowState). length w.held) fills.holds ∙ length-append a.held fills.joined in
    let one : left_open a.over ≡ 1 = ap left_open none in
    elim further [
      | inl not ↦ omega (arith, size, longer, one, closed b.over not, less, room)
      | inr more ↦ omega (arith, size, longer, one, at_most_one b.over, more, less, room)
    ]
