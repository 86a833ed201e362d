-- What taking units has done so far, and what it results in.
use Rattle.std.proofs.Common.{◌≡◌, ◌+◌, ◌-◌, ◌<◌, ◌≤◌, ℕ, List, [], ◌∷◌, ◌++◌, length, drop, refl, sym, ap, ◌∙◌, append_assoc, length-append, arith}
use Rattle.std.specs.Prelude.{All}
use Rattle.std.proofs.lemmas.List.{drop-drop, flat_map_more, length-drop}
use Rattle.std.proofs.lemmas.List.Elements.{All-push, All-nil}
use Rattle.wire_records.specs.Grammars.{encode_all}
use Rattle.wire_records.specs.Reading.{Format}
use Rattle.file_units.specs.Units.{TakesOne, Leads}

module _ {V U S O : Type 0} (format : Format V U) (Steps : S → U → S → O → O → Type 0) where
  -- the units between the start and this place were taken
  pub record HasTaken (IsReady : ℕ → Type 0) (bytes : List ℕ) (start place : ℕ) (old now : S) (before after : O) : Type 0 where
    pub units : List U
    pub whole : drop start bytes ≡ encode_all format.units units ++ drop place bytes
    pub each : All format.units.IsLawful units
    pub reached : place ≡ start + length (encode_all format.units units)
    pub within : place ≤ length bytes
    pub leads : Leads format Steps old before units now after
    pub ready : IsReady (length bytes - place)

  -- before the first unit
  pub none_taken : (IsReady : ℕ → Type 0) (bytes : List ℕ) (start : ℕ) (old : S) (before : O) → start ≤ length bytes → IsReady (length bytes - start) → HasTaken IsReady bytes start start old old before before
  none_taken IsReady bytes start old before inside ready = record {
    units = [];
    whole = refl;
    each = All-nil format.units.IsLawful;
    reached = omega arith;
    within = inside;
    leads = (refl, refl);
    ready = ready;
  }

  -- one more unit is taken
  pub leads_more : (old middle new : S) (before between after : O) (units : List U) (unit : U) → Leads format Steps old before units middle between → Steps middle unit new between after → Leads format Steps old before (units ++ unit ∷ []) new after
  leads_more old middle new before between after [] unit leads step = rw (← leads.0, ← leads.1) (new, after, step, (refl, refl))
  leads_more old middle new before between after (u ∷ units) unit leads step = (leads.0, leads.1, leads.2, leads_more leads.0 middle new leads.1 between after units unit leads.3 step)

  -- one more unit was taken
  pub one_more_taken : (IsReady Ready : ℕ → Type 0) (bytes : List ℕ) (start place taken : ℕ) (old middle new : S) (before between after : O)
      → HasTaken IsReady bytes start place old middle before between → TakesOne format Steps taken (drop place bytes) middle new between after → Ready ((length bytes - place) - taken)
      → HasTaken Ready bytes start (place + taken) old new before after × (0 < taken)
  one_more_taken IsReady Ready bytes start place taken old middle new before between after so one ready =
      let len = ap length one.prefix in
      let inside = length-append (format.units.encode one.unit) (drop taken (drop place bytes)) in
      let left = length-drop place bytes in
      let same : (length bytes - place) - taken ≡ length bytes - (place + taken) = omega (arith, left, so.within, len, inside, one.size) in (
        record {
          units = so.units ++ one.unit ∷ [];
          whole = so.whole ∙ ap (λ xs. encode_all format.units so.units ++ xs) (one.prefix ∙ ap (λ xs. format.units.encode one.unit ++ xs) (drop-drop taken place bytes))
              ∙ sym (append_assoc (encode_all format.units so.units) (format.units.encode one.unit) (drop (place + taken) bytes))
              ∙ ap (λ xs. xs ++ drop (place + taken) bytes) (flat_map_more format.units.encode [] so.units one.unit);
          each = All-push format.units.IsLawful so.units one.unit so.each one.lawful;
          reached = omega (arith, so.reached, one.size, length-append (encode_all format.units so.units) (format.units.encode one.unit), ap length (flat_map_more format.units.encode [] so.units one.unit));
          within = omega (arith, left, so.within, len, inside, one.size);
          leads = leads_more old middle new before between after so.units one.unit so.leads one.step;
          ready = rw same at ready;
        },
        one.some,
      )
