-- A source of a new disk that is opened, and read past its beginning.
use Rattle.std.proofs.Common.{◌≡◌, inr, ℕ, ◌-◌, ◌≤◌, List, ◌++◌, Option, Some, None, IfSome, length, take, drop, refl, sym, ap, subst, ◌∙◌, append_assoc, length-append, take-append-drop}
use Rattle.std.proofs.lemmas.List.{take_at, take-append-le}
use Rattle.flow_io.specs.Streams.{Takes}
use Rattle.wire_records.specs.Grammars.{BeginsWith, BeginsWithNone}
use Rattle.wire_records.specs.Formats.{commands, command_magic_of}
use Rattle.file_units.proofs.Gone.{considered}
use Rattle.market_rules.specs.Market.{Market}
use Rattle.market_snapshot.specs.Checkpoints.{checkpoint_magic, checkpoint_bytes, IsCheckpoint, HasCheckpointMagic, BeginsWithNoCheckpoint}
use Rattle.market_history.specs.Histories.{Empty, Kept}
use Rattle.market_history.proofs.Starting.{kept_magic, magic_on}
use Rattle.market_snapshot.proofs.OneMarket.{one_market}
use Rattle.journal_keeping.specs.Inputs.{IsInCheckpoint}
use Rattle.journal_keeping.specs.Starts.{sources, BeginsOtherwise}
use Rattle.journal_keeping.proofs.Starts.{no_command}
use Rattle.journal_keeping.proofs.Magic.{BreaksOffEarly, prefix_has}

-- ---- which bytes begin no source

-- a checkpoint, and what isn't a command file of its version
pub after_none : (market : Market) (rest : List ℕ) → IsCheckpoint market (checkpoint_bytes market) → ((body : List ℕ) → ¬ BeginsWith commands.magics rest market.version body) → BeginsWithNone sources.magics (checkpoint_bytes market ++ rest)
after_none market rest one none (Empty version) following lawful e =
    no_command version (checkpoint_bytes market ++ rest) following (kept_magic market (checkpoint_bytes market ++ rest) rest refl) e
after_none market rest one none (Kept other) following lawful e =
    let same = one_market market other (checkpoint_bytes market) (checkpoint_bytes other) rest (command_magic_of other.version ++ following) one lawful (e ∙ append_assoc (checkpoint_bytes other) (command_magic_of other.version) following) in
    none following (tt, same.1 ∙ ap (λ (m : Market). command_magic_of m.version ++ following) (sym same.0))

pub after_otherwise : (market : Market) (rest : List ℕ) → IsCheckpoint market (checkpoint_bytes market) → ((body : List ℕ) → ¬ BeginsWith commands.magics rest market.version body) → BeginsOtherwise (checkpoint_bytes market ++ rest)
after_otherwise market rest one none = (after_none market rest one none, λ unsound. unsound.1 market (checkpoint_bytes market) rest one refl)

-- neither a command file nor a checkpoint
pub no_start : (held more : List ℕ) → 8 ≤ length held → BeginsWithNone commands.magics held → (¬ HasCheckpointMagic held) → BeginsOtherwise (held ++ more)
no_start held more some none other = (neither, λ unsound. other (magic_in unsound.0))
  where
    magic_in : HasCheckpointMagic (held ++ more) → HasCheckpointMagic held
    magic_in (rest, e) =
        let prefix : take 8 held ≡ checkpoint_magic = sym (take-append-le 8 held more some) ∙ ap (take 8) e ∙ take_at _ rest 8 refl in
        (drop 8 held, sym (take-append-drop 8 held) ∙ ap (λ (l : List ℕ). l ++ drop 8 held) prefix)

    neither : BeginsWithNone sources.magics (held ++ more)
    neither (Empty version) following lawful e = none version (drop 8 held) tt (prefix_has version held more following some e).1
    neither (Kept market) following lawful e = other (magic_in (kept_magic market (held ++ more) (command_magic_of market.version ++ following) (e ∙ append_assoc (checkpoint_bytes market) (command_magic_of market.version) following)))

-- the magic of a checkpoint, and no checkpoint
pub unsound_none : (bytes : List ℕ) → HasCheckpointMagic bytes → BeginsWithNoCheckpoint bytes → BeginsWithNone sources.magics bytes
unsound_none bytes magic unsound (Empty version) following lawful e = no_command version bytes following magic e
unsound_none bytes magic unsound (Kept market) following lawful e = unsound market (checkpoint_bytes market) (command_magic_of market.version ++ following) lawful (e ∙ append_assoc (checkpoint_bytes market) (command_magic_of market.version) following)

-- ---- what was taken of a source

-- bytes within the limit that were taken are the first of the source
pub first_taken : (limit : ℕ) (first left bytes : List ℕ) → bytes ≡ first ++ left → length first ≤ limit → take (length first) (take limit bytes) ≡ first
first_taken limit first left bytes takes few =
    ap (take (length first)) (ap (take limit) takes ∙ considered limit first left few) ∙ take_at first (take (limit - length first) left) (length first) refl

-- a source that broke off in its checkpoint, or before its magic
pub broke_off : (limit : ℕ) (before after : Option (List ℕ)) (first : List ℕ) → Takes before after first → length first ≤ limit → HasCheckpointMagic first → BeginsWithNone sources.magics first → IfSome before (BreaksOffEarly limit after)
broke_off limit None after first takes few magic none = tt
broke_off limit (Some bytes) None first takes few magic none = absurd takes
broke_off limit (Some bytes) (Some left) first takes few magic none =
    let is = first_taken limit first left bytes takes few in
    (length first, sym (ap length takes ∙ length-append first left), (subst (λ (l : List ℕ). BeginsWithNone sources.magics l) (sym is) none, inr (subst HasCheckpointMagic (sym is) magic)))

-- memory ran out for a checkpoint
pub in_checkpoint : (limit : ℕ) (before after : Option (List ℕ)) (first : List ℕ) → Takes before after first → length first ≤ limit → HasCheckpointMagic first → IsInCheckpoint limit before after
in_checkpoint limit None after first takes few magic = tt
in_checkpoint limit (Some bytes) None first takes few magic = absurd takes
in_checkpoint limit (Some bytes) (Some left) first takes few magic =
    let whole : take limit bytes ≡ first ++ take (limit - length first) left = ap (take limit) takes ∙ considered limit first left few in
    (subst HasCheckpointMagic (sym whole) (magic_on first (take (limit - length first) left) magic), length first, sym (ap length takes ∙ length-append first left), few)

-- what the first bytes are, whatever follows them within the limit
pub are_first : (limit : ℕ) (Are : List ℕ → Type 0) (before after : Option (List ℕ)) (first : List ℕ) → Takes before after first → length first ≤ limit → ((more : List ℕ) → Are (first ++ more)) → IfSome before (λ bytes. Are (take limit bytes))
are_first limit Are None after first takes few are = tt
are_first limit Are (Some bytes) None first takes few are = absurd takes
are_first limit Are (Some bytes) (Some left) first takes few are =
    subst Are (sym (ap (take limit) takes ∙ considered limit first left few)) (are (take (limit - length first) left))
