-- A disk and an input lead to one journal and one output.
use Rattle.std.proofs.Common.{◌≡◌, inl, inr, ℕ, List, ◌++◌, length, take, sym, ap, subst, ◌∙◌}
use Rattle.market_rules.specs.Market.{Market}
use Rattle.market_history.specs.Histories.{Start, market_of}
use Rattle.journal_keeping.specs.Openings.{Opening, Legal, OpensAs}
use Rattle.journal_keeping.proofs.OneOpening.{one_opening}
use Rattle.line_keeping.specs.Answers.{AreLinesAnswered}
use Rattle.line_keeping.specs.Inputs.{IsBefore, line_starts}
use Rattle.line_keeping.specs.Laws.{OneOutput}
use Rattle.line_keeping.proofs.Joining.{Pairs, Texts}
use Rattle.line_keeping.proofs.OneInput.{one_start, one_input}
use Rattle.line_keeping.proofs.OneAnswer.{one_answer}

-- how a valid journal is opened
legal_is : (v w : Start) (p q : Pairs) (m n : Market) → ◌≡◌ {A = Opening} (Legal v p m) (Legal w q n) → (v ≡ w) × (p ≡ q) × (m ≡ n)
legal_is v w p q m n e = (cc, cc, cc)

-- a disk is continued in one way, after what is before the lines
one_begin : (held bytes : List ℕ) (v w : Start) (p q : Pairs) (m n : Market) (before other : Start) (text more : List ℕ) → OpensAs line_starts held v p m before → OpensAs line_starts held w q n other → IsBefore bytes before text → IsBefore bytes other more → (v ≡ w) × (p ≡ q) × (m ≡ n)
one_begin held bytes v w p q m n before other text more (inl a) (inl b) is is_too = legal_is v w p q m n (one_opening held (Legal v p m) (Legal w q n) a.0 b.0)
one_begin held bytes v w p q m n before other text more (inl a) (inr b) is is_too = absurd (a.0.0 b.0.0)
one_begin held bytes v w p q m n before other text more (inr a) (inl b) is is_too = absurd (b.0.0 a.0.0)
one_begin held bytes v w p q m n before other text more (inr a) (inr b) is is_too =
    let same = one_start bytes v w text more (subst (λ (x : Start). IsBefore bytes x text) a.3 is) (subst (λ (x : Start). IsBefore bytes x more) b.3 is_too) a.4 b.4 in
    (same, a.1 ∙ sym b.1, a.2 ∙ ap market_of same ∙ sym b.2)

pub one_output : OneOutput
one_output limit held bytes begin other pairs others texts words new last a b =
    let input = one_input limit bytes a.before b.before a.lines b.lines a.are b.are in
    let opened = one_begin held (take limit bytes) begin other a.old b.old a.market b.market a.before b.before a.are.0 b.are.0 a.opens b.opens a.are.1 b.are.1 in
    let old = subst (λ (l : Pairs). AreLinesAnswered a.market (length l) 1 a.lines a.added texts new) opened.1 a.answered in
    let market = subst (λ (m : Market). AreLinesAnswered m (length b.old) 1 a.lines a.added texts new) opened.2 old in
    let lines = subst (λ (l : Texts). AreLinesAnswered b.market (length b.old) 1 l a.added texts new) input.2 market in
    let one = one_answer b.market (length b.old) 1 b.lines a.added b.added texts words new last lines b.answered in
    (opened.0, a.all ∙ ap (λ (l : Pairs). l ++ a.added) opened.1 ∙ ap (λ (l : Pairs). b.old ++ l) one.0 ∙ sym b.all, one.1, one.2)
