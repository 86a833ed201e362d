-- What the first bytes of an input show of how it begins.
use Rattle.std.proofs.Common.{◌≡◌, ◌≢◌, ⊎_elim, inl, ℕ, ◌+◌, ◌-◌, ◌≤◌, ◌<◌, List, [], ◌∷◌, ◌++◌, Option, None, Some, IfSome, MatchOption, Result, IfErr, codes, length, length-append, take, drop, refl, sym, ap, subst, ◌∙◌, arith, append_assoc, take-append-drop}
use Rattle.std.proofs.lemmas.List.{append-nil, take-append-le, take_all}
use Rattle.std.proofs.Math.Seq.{take-append_seam}
use Rattle.flow_io.specs.Streams.{Takes}
use Rattle.flow_io.specs.Windows.{WindowState, IsPast, IsWithin, Fills, empty_window}
use Rattle.flow_io.specs.declared.window.InputEnd.{InputEnd}
use Rattle.flow_io.specs.declared.window.InputEnd.TheVariants.{Source, Limit}
use Rattle.file_units.specs.Inputs.{known}
use Rattle.file_units.proofs.Gone.{considered}
use Rattle.wire_records.specs.Versions.{number_of}
use Rattle.wire_records.specs.declared.version.Version.{Version}
use Rattle.market_snapshot.specs.Checkpoints.{checkpoint_magic, HasCheckpointMagic, BeginsWithNoCheckpoint}
use Rattle.input_lines.proofs.Finding.{filled_held, taken_whole}
use Rattle.journal_keeping.specs.Inputs.{BeginsUnsound}
use Rattle.journal_keeping.specs.declared.fault.InputFault.{InputFault}
use Rattle.journal_keeping.specs.declared.fault.InputFault.TheVariants.{Read, NotFlow}
use Rattle.journal_keeping.proofs.Counts.{on_err}
use Rattle.desk_opening.specs.Beginnings.{version_line, BeginsWithNeither, NotBegun}
use Rattle.desk_opening.specs.Private.{IsLacking}
use Rattle.desk_opening.proofs.LongCheckpoints.{checkpoint_long}

pub line_size : (version : Version) → length (version_line version) ≡ 14
line_size version = refl

-- ---- the line that says a version

-- these bytes are its parts
pub line_found : (bytes rest after : List ℕ) (digit n : ℕ) (result : Option Version) → bytes ≡ codes "{\"version\":" ++ rest → rest ≡ digit ∷ after → after ≡ codes "}\n" ++ drop 2 after → digit ≡ 48 + n → MatchOption result ((version : Version) → n ≢ number_of version) (λ version. n ≡ number_of version)
    → IfSome result (λ version. (more : List ℕ) × (bytes ≡ version_line version ++ more))
line_found bytes rest after digit n None front next last is found = tt
line_found bytes rest after digit n (Some version) front next last is found = (
  drop 2 after,
  front ∙ ap (λ (l : List ℕ). codes "{\"version\":" ++ l) (next ∙ ap (λ (l : List ℕ). digit ∷ l) last ∙ ap (λ (k : ℕ). k ∷ codes "}\n" ++ drop 2 after) (is ∙ ap (λ (k : ℕ). 48 + k) found)),
)

-- ---- what was taken

-- what a source has left, if known
abbrev left_of : Option (List ℕ) → List ℕ
left_of None = []
left_of (Some left) = left

known_is : (taken : List ℕ) (after : Option (List ℕ)) → known taken after ≡ taken ++ left_of after
known_is taken None = sym (append-nil taken)
known_is taken (Some left) = refl

-- the input within the limit begins with what was taken
within : (limit : ℕ) (taken : List ℕ) (after : Option (List ℕ)) → length taken ≤ limit → take limit (known taken after) ≡ taken ++ take (limit - length taken) (left_of after)
within limit taken after few = ap (take limit) (known_is taken after) ∙ considered limit taken (left_of after) few

-- bytes that are long enough begin as those do that follow them
front : (held more p rest : List ℕ) → length p ≤ length held → held ++ more ≡ p ++ rest → (tail : List ℕ) × (held ≡ p ++ tail)
front held more p rest long is =
    let prefix : take (length p) held ≡ p = sym (take-append-le (length p) held more long) ∙ ap (take (length p)) is ∙ take-append_seam p rest in
    (drop (length p) held, sym (take-append-drop (length p) held) ∙ ap (λ (l : List ℕ). l ++ drop (length p) held) prefix)

-- fewer bytes than the longest have no such beginning
too_few : (held p rest : List ℕ) → length held < length p → held ≡ p ++ rest → ⊥
too_few held p rest few is = omega (arith, few, ap length is, length-append p rest)

no_line : (held : List ℕ) → length held < 14 → (version : Version) (rest : List ℕ) → held ≡ version_line version ++ rest → ⊥
no_line held few version rest is = too_few held (version_line version) rest (omega (arith, few, line_size version)) is

no_checkpoint : (held : List ℕ) → length held < 14 → BeginsWithNoCheckpoint held
no_checkpoint held few = λ m prefix rest is e. omega (arith, few, ap length e, length-append prefix rest, ap length is.encoded, checkpoint_long m)

-- an input of which bytes were taken that begin neither way begins neither way
pub neither : (limit : ℕ) (before after : Option (List ℕ)) (held : List ℕ) → Takes before after held → length held ≤ limit → 14 ≤ length held → (¬ HasCheckpointMagic held) → ((version : Version) (rest : List ℕ) → ¬ (held ≡ version_line version ++ rest)) → NotBegun limit before after NotFlow
neither limit before after held takes few long other none =
    let is = within limit held after few in (
      held,
      takes,
      omega (arith, few),
      subst BeginsWithNeither (sym is) (
        (λ has. other (front held _ checkpoint_magic has.0 (omega (arith, long)) has.1)),
        (λ version rest begins. let tail = front held _ (version_line version) rest (omega (arith, long, line_size version)) begins in none version tail.0 tail.1),
      ),
    )

-- an input that has no more bytes than a few within the limit
lacks : (limit : ℕ) (before after : Option (List ℕ)) (held taken : List ℕ) → Takes before after taken → length taken ≤ limit + 1 → take limit (known taken after) ≡ held → length held < 14 → (fault : InputFault) → IsLacking held fault → NotBegun limit before after fault
lacks limit before after held taken takes few is short fault =
    ⊎_elim
    (λ bad. subst (λ (f : InputFault). NotBegun limit before after f) (sym bad.1) (taken, takes, few, subst BeginsUnsound (sym is) (bad.0, no_checkpoint held short)))
    (λ other. subst (λ (f : InputFault). NotBegun limit before after f) (sym other.1) (taken, takes, few, subst BeginsWithNeither (sym is) (other.0, no_line held short)))

-- a new window was filled to these bytes, fewer than those of a version's line
module _ (room limit : ℕ) (old f : WindowState) (new : old ≡ empty_window room limit) (x y : Option (List ℕ)) (fills : Fills old f x y) (inside : IsWithin f.place (length f.held) f.limit f.over) where
  abbrev is_new : Fills (empty_window room limit) f x y
  is_new = subst (λ (w : WindowState). Fills w f x y) new fills

  held_is : f.held ≡ is_new.joined
  held_is = filled_held (empty_window room limit) f x y is_new

  place_is : f.place ≡ 0
  place_is = ap (λ (w : WindowState). w.place) is_new.holds

  limit_is : f.limit ≡ limit
  limit_is = ap (λ (w : WindowState). w.limit) is_new.holds

  pub room_is : f.room ≡ room
  room_is = ap (λ (w : WindowState). w.room) is_new.holds

  pub taken_first : (f.over ≡ Some Limit → ⊥) → Takes x y f.held
  taken_first not = subst (Takes x y) (sym held_is) (taken_whole (empty_window room limit) f x y is_new not)

  -- a call after that found nothing either
  pub fails_on : {T : Type 0} (result : Result T InputFault) (z : Option (List ℕ)) → (f.over ≡ Some Limit → ⊥) → IfErr result (λ fault. (before : Option (List ℕ)) → Takes before y f.held → NotBegun f.limit before z fault) → IfErr result (NotBegun limit x z)
  fails_on result z not fails = on_err result _ _ (λ fault none. subst (λ (n : ℕ). NotBegun n x z fault) limit_is (none x (taken_first not))) fails

  -- the input ended
  pub ended : f.over ≡ Some Source → IfSome y (λ left. left ≡ []) → length f.held < 14 → (fault : InputFault) → IsLacking f.held fault → NotBegun limit x y fault
  ended over none short fault lacking =
      let few : length f.held ≤ limit = omega (arith, subst (λ (o : Option InputEnd). IsWithin f.place (length f.held) f.limit o) over inside, place_is, limit_is) in
      lacks limit x y f.held f.held (taken_first (λ e. absurd (let bad : ◌≡◌ {A = Option InputEnd} (Some Source) (Some Limit) = sym over ∙ e in cc))) (omega (arith, few)) (whole y none few) short fault lacking
    where
      whole : (after : Option (List ℕ)) → IfSome after (λ left. left ≡ []) → length f.held ≤ limit → take limit (known f.held after) ≡ f.held
      whole None none few = take_all limit f.held few
      whole (Some left) none few = ap (λ (l : List ℕ). take limit (f.held ++ l)) none ∙ ap (take limit) (append-nil f.held) ∙ take_all limit f.held few

  -- the limit was reached
  pub limited : f.over ≡ Some Limit → length f.held < 14 → (fault : InputFault) → IsLacking f.held fault → NotBegun limit x y fault
  limited over short fault lacking =
      let full : f.place + length f.held ≡ f.limit = subst (λ (o : Option InputEnd). IsWithin f.place (length f.held) f.limit o) over inside in
      let size : length f.held ≡ limit = omega (arith, full, place_is, limit_is) in
      let past : length is_new.past ≡ 1 = subst (λ (o : Option InputEnd). IsPast None o is_new.past) over is_new.beyond in
      let taken : Takes x y (f.held ++ is_new.past) = subst (λ (l : List ℕ). Takes x y (l ++ is_new.past)) (sym held_is) is_new.taken in
      lacks limit x y f.held (f.held ++ is_new.past) taken (omega (arith, size, past, length-append f.held is_new.past))
      (ap (take limit) (known_is (f.held ++ is_new.past) y ∙ append_assoc f.held is_new.past (left_of y)) ∙ considered limit f.held (is_new.past ++ left_of y) (omega (arith, size)) ∙ ap (λ (n : ℕ). f.held ++ take n (is_new.past ++ left_of y)) spare ∙ append-nil f.held) short fault lacking
    where
      spare : limit - length f.held ≡ 0
      spare = omega (arith, subst (λ (o : Option InputEnd). IsWithin f.place (length f.held) f.limit o) over inside, place_is, limit_is)

  -- a read failed
  pub unread : f.over ≡ None → length f.held < 14 → NotBegun limit x y Read
  unread over short = (
    f.held,
    taken_first (λ e. absurd (let bad : ◌≡◌ {A = Option InputEnd} None (Some Limit) = sym over ∙ e in cc)),
    omega (arith, subst (λ (o : Option InputEnd). IsWithin f.place (length f.held) f.limit o) over inside, place_is, limit_is),
    inl short,
  )
