-- How the calls of a sink grow in number.
use Rattle.std.proofs.Common.{ℕ, List, [], ◌++◌, Option}
use Rattle.std.specs.List.{flat_map}
use Rattle.std.proofs.lemmas.Grind.{flat_map-append}
use Rattle.flow_io.specs.Streams.{Grows, HandsOver}
use Rattle.flow_io.proofs.Growth.{Grows-nothing, Grows-more}

module _ {O : Type 0} (calls : O → Option (List (List ℕ))) (held : O → Option (List ℕ)) where
  -- nothing was handed over
  pub hands_nothing : {Failed : Type 0} (out : O) → HandsOver calls held out out Failed []
  hands_nothing out = record { called = Grows-nothing (calls out); written = λ not. Grows-nothing (held out) }

  -- pieces were handed over, of which none failed, and then more
  pub hands_more : {One Failed : Type 0} (first second third : O) (pieces more : List (List ℕ)) → ¬ One → HandsOver calls held first second One pieces → HandsOver calls held second third Failed more → HandsOver calls held first third Failed (pieces ++ more)
  hands_more first second third pieces more none a b = record {
    called = Grows-more (calls first) (calls second) (calls third) pieces more a.called b.called;
    written = λ not. rw (flat_map-append (λ (piece : List ℕ). piece) pieces more) (Grows-more (held first) (held second) (held third) (flat_map (λ piece. piece) pieces) (flat_map (λ piece. piece) more) (a.written none) (b.written not));
  }

  -- the failure may be replaced by another one that follows from it
  pub hands_alike : {One Failed : Type 0} (first second : O) (pieces : List (List ℕ)) → (¬ Failed → ¬ One) → HandsOver calls held first second One pieces → HandsOver calls held first second Failed pieces
  hands_alike first second pieces back a = record { called = a.called; written = λ not. a.written (back not) }
