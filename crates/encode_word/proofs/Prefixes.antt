-- What first bytes result in if more follow is a prefix of what all result in.
use Rattle.std.proofs.Common.{◌≡◌, ℕ, List, [], ◌∷◌, ◌++◌, ◌⊎◌, inl, inr, Option, Some, None, length, take, drop, append-nil, append_assoc, length-append, take-append-drop, refl, sym, ap, ◌∙◌, subst, arith}
use Rattle.std.specs.List.{flat_map}
use Rattle.std.proofs.lemmas.Bool.{cases_lt}
use Rattle.std.proofs.lemmas.Grind.{flat_map-append}
use Rattle.std.proofs.lemmas.List.{take_at, take-append-le}
use Rattle.wire_records.specs.Records.{encoding}
use Rattle.wire_records.specs.Formats.{command_magic_of}
use Rattle.wire_records.specs.Commands.{Command}
use Rattle.wire_records.specs.CommandRecords.{record_of}
use Rattle.wire_records.specs.declared.version.Version.{Version}
use Rattle.word_driver.specs.Ended.{Ended}
use Rattle.market_rules.specs.Market.{Market}
use Rattle.market_snapshot.specs.Checkpoints.{checkpoint_magic, checkpoint_bytes, HasCheckpointMagic}
use Rattle.line_records.specs.Lines.{ended_by_feeds, AreLines, AreRead, AreFirst, StopsAtLine}
use Rattle.line_records.proofs.OneReadings.{first_is_a_prefix}
use Rattle.line_records.proofs.Pieces.{lines_after}
use Rattle.encode_word.specs.declared.stop.EncodeStop.{EncodeStop}
use Rattle.encode_word.specs.Starts.{known_after, IsCut, BeginsKept, PrecedesLines}
use Rattle.encode_word.specs.Encoding.{LinesTo, EncodesInput}
use Rattle.encode_word.proofs.Starting.{kept_magic, magic_uncut, one_start}

-- a text begins with another
abbrev pub Begins : List ℕ → List ℕ → Type 0
Begins text begun = (rest : List ℕ) × (text ≡ begun ++ rest)

-- the encoding of values after a magic begins with that of the first of them
begins-encoded : {A : Type 0} (magic : List ℕ) (encode : A → List ℕ) (all first more : List A) (text begun : List ℕ)
    → all ≡ first ++ more → text ≡ magic ++ flat_map encode all → begun ≡ magic ++ flat_map encode first → Begins text begun
begins-encoded magic encode all first more text begun parts is begun_is = (
  flat_map encode more,
  is ∙ ap (λ xs. magic ++ flat_map encode xs) parts ∙ ap (λ xs. magic ++ xs) (flat_map-append encode first more)
      ∙ sym (append_assoc magic (flat_map encode first) (flat_map encode more)) ∙ ap (λ xs. xs ++ flat_map encode more) (sym begun_is),
)

-- first bytes begin with a magic that all begin with, or are a part of it
magic_in : (Longer : Type 0) → Longer → (first later : List ℕ) → HasCheckpointMagic (first ++ later) → HasCheckpointMagic first ⊎ IsCut Longer first
magic_in Longer longer first later (rest, e) =
    elim (cases_lt (length first) 8) [
      | inl few ↦
          let part : first ≡ take (length first) checkpoint_magic = sym (take_at first later (length first) refl) ∙ ap (take (length first)) e ∙ take-append-le (length first) checkpoint_magic rest (omega (arith, few, eight)) in
          inr (longer, few, (drop (length first) checkpoint_magic, sym (take-append-drop (length first) checkpoint_magic) ∙ ap (λ xs. xs ++ drop (length first) checkpoint_magic) (sym part)))
      | inr many ↦
          inl (drop 8 first, sym (take-append-drop 8 first) ∙ ap (λ xs. xs ++ drop 8 first) (sym (take-append-le 8 first later many) ∙ ap (take 8) e ∙ take_at checkpoint_magic rest 8 refl))
    ]
  where
    eight : length checkpoint_magic ≡ 8
    eight = refl

-- first bytes of those that are cut are cut
cut_in : (More Longer : Type 0) → Longer → (first later : List ℕ) → IsCut More (first ++ later) → IsCut Longer first
cut_in More Longer longer first later (more, few, (rest, e)) = (longer, omega (arith, few, length-append first later), (later ++ rest, e ∙ append_assoc first later rest))

module _ (version : Version) (known : List (List ℕ)) where
  -- the lines that were read are first ones
  read_first : (tickers read lines : List (List ℕ)) (bad : Option ℕ) → StopsAtLine version tickers read lines bad → (more : List (List ℕ)) × (lines ≡ read ++ more)
  read_first tickers read lines None stops = ([], stops ∙ sym (append-nil read))
  read_first tickers read lines (Some number) stops = (stops.0 ∷ stops.1, stops.2)

  -- if more bytes follow, all lines are ended
  all_ended : (More : Type 0) (bytes : List ℕ) (lines : List (List ℕ)) (split : AreLines More bytes lines) → More → lines ≡ split.ended
  all_ended More bytes lines split more = elim split.all [ inl ended ↦ ended.0 | inr last ↦ absurd (last.1 more) ]

  -- the lines of first bytes are first lines
  are_first : (More Longer : Type 0) → Longer → More ⊎ (¬ More) → (first later : List ℕ) (bad : Option ℕ) (commands : List Command) → AreRead version known Longer first bad commands → AreFirst version known More (first ++ later) commands
  are_first More Longer longer more first later bad commands reads =
      let split = reads.split in
      let prefix = read_first reads.tickers reads.read reads.lines bad reads.stops in
      let whole = ap (λ xs. xs ++ later) split.whole ∙ append_assoc (ended_by_feeds split.ended) split.last later in
      let lines = lines_after More more (first ++ later) (split.last ++ later) split.ended whole split.pieces in
      let ended = sym (all_ended Longer first reads.lines split longer) in
      record {
        lines = split.ended ++ lines.0;
        read = reads.read;
        more = prefix.0 ++ lines.0;
        tickers = reads.tickers;
        split = lines.1;
        prefix = ap (λ xs. xs ++ lines.0) (ended ∙ prefix.1) ∙ append_assoc reads.read prefix.0 lines.0;
        say = reads.say;
      }

  lines_begin : (More Longer : Type 0) → Longer → More ⊎ (¬ More) → (first later : List ℕ) (ended other : Ended EncodeStop) (text begun : List ℕ) → LinesTo version known More (first ++ later) ended text → LinesTo version known Longer first other begun → Begins text begun
  lines_begin More Longer longer more first later ended other text begun all part =
      let on = first_is_a_prefix version known More (first ++ later) all.bad part.commands all.commands (are_first More Longer longer more first later part.bad part.commands part.reads) all.reads in
      begins-encoded (command_magic_of version) (λ command. encoding (record_of command)) all.commands part.commands on.0 text begun on.1 all.writes part.writes

module _ (version : Version) (More Longer : Type 0) (longer : Longer) (more : More ⊎ (¬ More)) (first later : List ℕ) where
  -- without a checkpoint
  plain_begins : (ended other : Ended EncodeStop) (text begun : List ℕ) → ¬ HasCheckpointMagic first → ¬ IsCut Longer first → LinesTo version [] Longer first other begun → EncodesInput version More (first ++ later) ended text → Begins text begun
  plain_begins ended other text begun plain uncut part (inl all) = by all.start all.lines all.begins all.comes
    where
      by : (start : Option Market) (lines : List ℕ) → PrecedesLines version More (first ++ later) start lines → LinesTo version (known_after start) More lines ended text → Begins text begun
      by None lines before comes = lines_begin version [] More Longer longer more first later ended other text begun (subst (λ (xs : List ℕ). LinesTo version [] More xs ended text) before.2 comes) part
      by (Some market) lines before comes = absurd (elim (magic_in Longer longer first later (kept_magic version (first ++ later) market lines before)) [ inl magic ↦ plain magic | inr cut ↦ uncut cut ])
  plain_begins ended other text begun plain uncut part (inr (inl unkept)) = absurd (elim (magic_in Longer longer first later unkept.0.0) [ inl magic ↦ plain magic | inr cut ↦ uncut cut ])
  plain_begins ended other text begun plain uncut part (inr (inr cut)) = absurd (uncut (cut_in More Longer longer first later cut.0))

  -- after a checkpoint
  kept_begins : (ended other : Ended EncodeStop) (text begun : List ℕ) (market : Market) (lines : List ℕ) → BeginsKept version first market lines → LinesTo version market.tickers Longer lines other begun → EncodesInput version More (first ++ later) ended text → Begins text begun
  kept_begins ended other text begun market lines kept part encodes = by encodes
    where
      all : BeginsKept version (first ++ later) market (lines ++ later)
      all = (kept.0, kept.1, ap (λ xs. xs ++ later) kept.2 ∙ append_assoc (checkpoint_bytes market) lines later)

      by : EncodesInput version More (first ++ later) ended text → Begins text begun
      by (inl whole) =
          let one = one_start version More (first ++ later) whole.start (Some market) whole.lines (lines ++ later) whole.begins all in
          let here = subst (λ (start : Option Market). LinesTo version (known_after start) More whole.lines ended text) one.0 whole.comes in
          lines_begin version market.tickers More Longer longer more lines later ended other text begun (subst (λ (xs : List ℕ). LinesTo version market.tickers More xs ended text) one.1 here) part
      by (inr (inl unkept)) = absurd (unkept.0.1 market (lines ++ later) all)
      by (inr (inr cut)) = absurd (magic_uncut More (first ++ later) (kept_magic version (first ++ later) market (lines ++ later) all) cut.0)

  pub first_begins : (ended other : Ended EncodeStop) (text begun : List ℕ) → EncodesInput version More (first ++ later) ended text → EncodesInput version Longer first other begun → Begins text begun
  first_begins ended other text begun all (inl part) = by part.start part.lines part.begins part.comes
    where
      by : (start : Option Market) (lines : List ℕ) → PrecedesLines version Longer first start lines → LinesTo version (known_after start) Longer lines other begun → Begins text begun
      by None lines before comes = plain_begins ended other text begun before.0 before.1 (subst (λ (xs : List ℕ). LinesTo version [] Longer xs other begun) before.2 comes) all
      by (Some market) lines before comes = kept_begins ended other text begun market lines before comes all
  first_begins ended other text begun all (inr (inl unkept)) = (text, ap (λ xs. xs ++ text) (sym unkept.2))
  first_begins ended other text begun all (inr (inr cut)) = (text, ap (λ xs. xs ++ text) (sym cut.2))
