-- A line is one envelope at most.
use Rattle.std.proofs.Common.{◌≡◌, ℕ, List, Option, refl, ap, sym, ◌∙◌, subst}
use Rattle.envelope_text.specs.Envelopes.{Sent, IsEnvelope, HasMembers}
use Rattle.envelope_text.specs.Laws.{OneEnvelope}
use Rattle.envelope_text.proofs.Members.{values, one_whole_at, one_text_at, one_id}

-- records of the same parts are the same
same_parts : (a b : Sent) → a.from ≡ b.from → a.id ≡ b.id → a.text ≡ b.text → a ≡ b
same_parts a b from id text = by a.from b.from a.id b.id a.text b.text from id text
  where
    sent : ℕ → Option ℕ → List ℕ → Sent
    sent from id text = record { from = from; id = id; text = text }

    by : (f g : ℕ) (i j : Option ℕ) (t u : List ℕ) → f ≡ g → i ≡ j → t ≡ u → sent f i t ≡ sent g j u
    by f g i j t u from id text = ap (λ n. sent n i t) from ∙ ap (λ k. sent g k t) id ∙ ap (λ s. sent g j s) text

pub one_envelope : OneEnvelope
one_envelope line a b one other =
    let theirs = subst (λ v. HasMembers v a) (values one.value other.value (sym one.reads ∙ other.reads)) one.members in
    same_parts a b (one_whole_at other.value _ a.from b.from theirs.from other.members.from) (one_id other.value a.id b.id theirs.id other.members.id) (one_text_at other.value _ a.text b.text theirs.text other.members.text)
