-- What a resumption results in for first bytes if more follow: nothing, or the entries of the first new records.
use Rattle.std.proofs.Common.{◌≡◌, ◌<◌, ◌⊎◌, ℕ, List, [], ◌∷◌, ◌++◌, length, take, drop, inl, inr, append_assoc, refl, sym, ap, subst, ◌∙◌}
use Rattle.std.proofs.lemmas.List.{take-append-drop, take_at}
use Rattle.wire_records.specs.Grammars.{encode_all}
use Rattle.wire_records.specs.Formats.{commands, command_magic_of}
use Rattle.market_rules.specs.Market.{Market}
use Rattle.word_driver.specs.Ended.{Ended}
use Rattle.session_resume.specs.declared.first.Origin.{Origin}
use Rattle.session_resume.specs.declared.first.Unfit.{Unfit}
use Rattle.session_resume.specs.Firsts.{First, Neither, NoCheckpoint, Illegal, Whole, IsFirst}
use Rattle.session_resume.specs.Rests.{Rest, Cut, Nothing, Commands, Other, IsRest, RestComesTo}
use Rattle.session_resume.specs.Resuming.{FirstComesTo, Resumes, ResumesInto}
use Rattle.flow_exchange.specs.declared.form.Form.TheVariants.{Resume}
use Rattle.flow_exchange.specs.Program.{ComesToIfMore}
use Rattle.flow_exchange.proofs.ResumeForm.{prefix_of}

module _ (More : Type 0) (first later : List ℕ) (ended : Ended Unfit) (text : List ℕ) where
  by_rest : (origin : Origin) (market : Market) (place : ℕ) (rest : List ℕ) → IsFirst first (Whole origin market place rest) → (following : Rest) → IsRest market.version More rest following → RestComesTo origin market More place rest following ended text → (text ≡ []) ⊎ ResumesInto (first ++ later) text
  by_rest origin market place rest stands Cut is comes = inl comes.1
  by_rest origin market place rest stands Nothing is comes = inl comes.1
  by_rest origin market place rest stands Other is comes = inl comes.1
  by_rest origin market place rest stands (Commands body) is serves =
      let magic = command_magic_of market.version in
      let encoded = encode_all commands.units serves.records in
      let has = prefix_of first origin market place rest stands in
      let whole : first ++ later ≡ has.prefix ++ (magic ++ (body ++ later)) =
      ap (λ xs. xs ++ later) (has.whole ∙ ap (λ xs. has.prefix ++ xs) is) ∙ append_assoc has.prefix (magic ++ body) later ∙ ap (λ xs. has.prefix ++ xs) (append_assoc magic body later)
      in
      inr (record {
        records = serves.records;
        left = serves.reads.rest ++ later;
        new = serves.new;
        first = record {
          origin = origin;
          market = market;
          place = place;
          rest = magic ++ (body ++ later);
          body = body ++ later;
          stands = subst (λ (xs : List ℕ). IsFirst xs (Whole origin market place (magic ++ (body ++ later)))) (sym whole) (has.stands (body ++ later));
          magic = refl;
          whole = ap (λ xs. xs ++ later) serves.reads.whole ∙ append_assoc encoded serves.reads.rest later;
          each = serves.reads.each;
          writes = serves.writes;
        };
      })

  by_first : (kind : First) → IsFirst first kind → FirstComesTo More kind ended text → (text ≡ []) ⊎ ResumesInto (first ++ later) text
  by_first Neither stands comes = inl comes.1
  by_first NoCheckpoint stands comes = inl comes.1
  by_first (Illegal number) stands comes = inl comes.1
  by_first (Whole origin market place rest) stands comes = by_rest origin market place rest stands comes.0 comes.1 comes.2

pub cut_into : (limit : ℕ) (bytes : List ℕ) (n : ℕ) (text : List ℕ) → ComesToIfMore Resume (take n (take limit bytes)) text → (text ≡ []) ⊎ ResumesInto (take limit bytes) text
cut_into limit bytes n text more =
    let first = take n (take limit bytes) in
    let longer = first ++ 0 ∷ [] in
    let part = (more 0 []).1 in
    let resumes = subst (λ (xs : List ℕ). Resumes (length first < length longer) xs part.0 text) (take_at first (0 ∷ []) (length first) refl) part.1 in
    subst (λ (xs : List ℕ). (text ≡ []) ⊎ ResumesInto xs text) (take-append-drop n (take limit bytes))
    (by_first (length first < length longer) first (drop n (take limit bytes)) part.0 text resumes.first resumes.stands resumes.comes)
