-- What a crash leaves of the entries of a line: all of them, or none.
use Rattle.std.proofs.Common.{inl, inr, List, ℕ, [], ◌++◌, map, sym, ap, subst, ◌∙◌, append_assoc}
use Rattle.std.proofs.lemmas.List.{append-nil, map-append}
use Rattle.journal_records.specs.Formats.{records_of}
use Rattle.market_rules.specs.Market.{Market}
use Rattle.market_history.specs.Histories.{Start}
use Rattle.disk_edge.specs.Disks.{DiskState, AtEachMoment}
use Rattle.disk_edge.proofs.Moments.{weaker, then_more}
use Rattle.journal_disk.specs.Pairs.{RecordPair}
use Rattle.journal_disk.specs.Entries.{StandsFor, WithOrWithout}
use Rattle.journal_keeping.specs.Starts.{head_of}
use Rattle.journal_keeping.specs.Keeping.{StandsForJournal, HoldsLegal}
use Rattle.journal_keeping.specs.Beginning.{WhileOpening}
use Rattle.desk_messages.specs.Desks.{Desks}
use Rattle.desk_opening.specs.declared.book.Book.{Book}
use Rattle.desk_opening.specs.declared.book.Book.TheVariants.{Kept, Open}
use Rattle.desk_opening.specs.Books.{GetsMore}
use Rattle.desk_keeping.specs.Hosting.{Entries, Texts, AreHosted, AreOfWholeLines, LeavesWholeLines}
use Rattle.desk_keeping.specs.Private.{AreWhole, IsWholeAt}
use Rattle.desk_keeping.proofs.Leaving.{continued_old}

module _ (begin : Start) where
  -- the entries of lines are whole
  pub whole_lines : (read : List (List ℕ)) (legal pairs : Entries) (texts : Texts) (market : Market) (desks : Desks) → AreHosted begin read pairs texts market desks → AreWhole begin read legal pairs
  whole_lines read legal pairs texts market desks hosted = inr (read, [], sym (append-nil read), texts, market, desks, hosted)

  module _ (read more : List (List ℕ)) where
    of_more : (pairs : Entries) → AreOfWholeLines begin read pairs → AreOfWholeLines begin (read ++ more) pairs
    of_more pairs (done, rest, is, texts, market, desks, hosted) = (done, rest ++ more, ap (λ (l : List (List ℕ)). l ++ more) is ∙ append_assoc done rest more, texts, market, desks, hosted)

    -- also of more lines
    pub whole_also : (legal pairs : Entries) → AreWhole begin read legal pairs → AreWhole begin (read ++ more) legal pairs
    whole_also legal pairs (inl same) = inl same
    whole_also legal pairs (inr of) = inr (of_more pairs of)

    leaves_more : (start : DiskState) (legal : Entries) (image : List ℕ) → LeavesWholeLines begin read start legal image → LeavesWholeLines begin (read ++ more) start legal image
    leaves_more start legal image (inl opening) = inl opening
    leaves_more start legal image (inr (all, of, stands)) = inr (all, of_more all of, stands)

    pub whole_more : (start : DiskState) (b : Book) (now : DiskState) (safe : Entries) → IsWholeAt begin start read b now safe → IsWholeAt begin start (read ++ more) b now safe
    whole_more start (Kept place ahead) now safe whole = tt
    whole_more start (Open place) now safe whole = λ was legal m holds.
        let it = whole was legal m holds in
        (weaker start now (LeavesWholeLines begin read start legal) (LeavesWholeLines begin (read ++ more) start legal) (leaves_more start legal) it.0, whole_also legal safe it.1)

  module _ (start : DiskState) (read : List (List ℕ)) where
    -- a file that was only opened
    pub whole_opened : (now : DiskState) (legal : Entries) → AtEachMoment start now (WhileOpening begin start legal) → AtEachMoment start now (LeavesWholeLines begin read start legal)
    whole_opened now legal moments = weaker start now (WhileOpening begin start legal) (LeavesWholeLines begin read start legal) (λ image left. inl left) moments

    -- one that was read to its end
    pub whole_gets : (place : ℕ) (now : DiskState) (old : Entries) (market : Market) → GetsMore begin place start now old market → IsWholeAt begin start read (Open place) now old
    whole_gets place now old market gets = λ was legal m holds. (
      whole_opened now legal (gets.moments was legal m holds),
      inl (sym (continued_old begin was start legal m holds old market gets.continues).0),
    )

    leaves_of : (legal all : Entries) (image : List ℕ) → AreWhole begin read legal all → StandsForJournal begin all image → LeavesWholeLines begin read start legal image
    leaves_of legal all image (inl same) stands = inl (inr (inl (subst (λ (l : Entries). StandsForJournal begin l image) same stands)))
    leaves_of legal all image (inr of) stands = inr (all, of, stands)

    -- entries that wait are kept, or not
    module _ (place : ℕ) (now later : DiskState) (safe waiting : Entries) (whole : IsWholeAt begin start read (Open place) now safe) (was : Start) (legal : Entries) (m : Market) (holds : HoldsLegal start was legal m)
        (all : AreWhole begin read legal (safe ++ waiting)) where
      pub whole_ends : AtEachMoment now later (WithOrWithout (head_of begin) (map records_of safe) (map records_of waiting)) → AtEachMoment start later (LeavesWholeLines begin read start legal)
      whole_ends moments =
          let it = whole was legal m holds in
          then_more start now later (LeavesWholeLines begin read start legal) it.0 (weaker now later (WithOrWithout (head_of begin) (map records_of safe) (map records_of waiting)) (LeavesWholeLines begin read start legal) (by it.1) moments)
        where
          by : AreWhole begin read legal safe → (image : List ℕ) → WithOrWithout (head_of begin) (map records_of safe) (map records_of waiting) image → LeavesWholeLines begin read start legal image
          by first image (inl stands) = leaves_of legal safe image first stands
          by first image (inr stands) = leaves_of legal (safe ++ waiting) image all (subst (λ (l : List RecordPair). StandsFor (head_of begin) l image) (sym (map-append records_of safe waiting)) stands)
