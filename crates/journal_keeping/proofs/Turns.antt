-- Entries that are kept: their bytes, and that none was added yet.
use Rattle.std.proofs.Common.{◌≡◌, inl, ℕ, List, [], ◌∷◌, ◌++◌, All, map, flat_map, refl, ◌∙◌}
use Rattle.std.proofs.lemmas.List.Elements.{All-cons, All-head, All-nil, All-tail}
use Rattle.std.specs.List.{AllByRecursion}
use Rattle.wire_records.specs.Records.{Record}
use Rattle.wire_records.specs.Commands.{Pair}
use Rattle.flow_orders.specs.Outcomes.{Outcome}
use Rattle.journal_records.specs.Pairs.{IsPair, pair_encoding}
use Rattle.journal_records.specs.Formats.{records_of}
use Rattle.market_rules.specs.Market.{Market}
use Rattle.disk_edge.specs.Disks.{DiskState, IsDisk, AtEachMoment}
use Rattle.disk_edge.proofs.Moments.{no_call}
use Rattle.journal_disk.specs.Pairs.{RecordPair, IsRecordPair, pair_bytes, IsWholePair}
use Rattle.journal_disk.specs.Entries.{Head, entry, WithOrWithout, Keeps}
use Rattle.journal_keeping.specs.Private.{KeepsMore, HasAdded}
use Rattle.journal_keeping.proofs.Serving.{kept_none}

abbrev pub Pairs : Type 0
Pairs = List (Pair Record Outcome)

-- the two records of an entry of a journal, and their bytes
pub is_record_pair : (pair : Pair Record Outcome) → IsPair pair → IsRecordPair (records_of pair)
is_record_pair pair fits = (fits.asked, fits.answered)

pub same_bytes : (pair : Pair Record Outcome) → pair_encoding pair ≡ pair_bytes (records_of pair)
unfolding pair_encoding pair_bytes
same_bytes pair = refl

pub is_whole : (pair : Pair Record Outcome) (text : List ℕ) → IsPair pair → text ≡ pair_encoding pair → IsWholePair text
is_whole pair text fits is = (records_of pair, is_record_pair pair fits, is ∙ same_bytes pair)

-- a list of one entry is within the limits
pub one_fits : (pair : Pair Record Outcome) → IsPair pair → All IsPair (pair ∷ [])
one_fits pair fits = All-cons IsPair pair [] fits (All-nil IsPair)

-- a disk keeps one entry more, by what its appender ensures of the entry's bytes
pub keeps_one : (pair : Pair Record Outcome) (from to : ℕ) (disk later : DiskState) (bytes : List ℕ) → IsPair pair → bytes ≡ pair_encoding pair
    → ((head : Head) (pairs : List RecordPair) (last : RecordPair) → Keeps head pairs from disk → IsRecordPair last → bytes ≡ pair_bytes last → Keeps head (pairs ++ last ∷ []) to later)
    → ((head : Head) (pairs : List RecordPair) (last : RecordPair) → Keeps head pairs from disk → IsRecordPair last → bytes ≡ pair_bytes last → AtEachMoment disk later (WithOrWithout head pairs (last ∷ [])))
    → KeepsMore (pair ∷ []) from to disk later
keeps_one pair from to disk later bytes fits is kept moments = record {
  keeps = λ head pairs at. kept head pairs (records_of pair) at (is_record_pair pair fits) (is ∙ same_bytes pair);
  moments = λ head pairs at. moments head pairs (records_of pair) at (is_record_pair pair fits) (is ∙ same_bytes pair);
}

pub are_record_pairs : (pairs : Pairs) → All IsPair pairs → AllByRecursion IsRecordPair (map records_of pairs)
are_record_pairs [] fits = tt
are_record_pairs (pair ∷ pairs) fits = (is_record_pair pair (All-head IsPair pair pairs fits), are_record_pairs pairs (All-tail IsPair pair pairs fits))

-- a disk keeps several entries more, by what its appender ensures of a group's bytes
pub keeps_group : (pairs : Pairs) (from to : ℕ) (disk later : DiskState) (group : List ℕ) → All IsPair pairs → group ≡ flat_map entry (map records_of pairs)
    → ((head : Head) (old more : List RecordPair) → Keeps head old from disk → AllByRecursion IsRecordPair more → group ≡ flat_map entry more → Keeps head (old ++ more) to later)
    → ((head : Head) (old more : List RecordPair) → Keeps head old from disk → AllByRecursion IsRecordPair more → group ≡ flat_map entry more → AtEachMoment disk later (WithOrWithout head old more))
    → KeepsMore pairs from to disk later
keeps_group pairs from to disk later group fits is kept moments = record {
  keeps = λ head old at. kept head old (map records_of pairs) at (are_record_pairs pairs fits) is;
  moments = λ head old at. moments head old (map records_of pairs) at (are_record_pairs pairs fits) is;
}

-- nothing was added yet
pub added_none : (start : DiskState) (before : Market) (from : ℕ) → IsDisk start → HasAdded start start before before from from []
added_none start before from is_disk = record {
  kept = λ begin old is keeps. kept_none begin start start old before from is keeps (no_call start _ is_disk (λ image left. inl left));
  told = λ some. some;
}
