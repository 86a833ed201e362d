-- The walk in turn: as a function of the budget, and as what holds of each walk in turn, and of the shortest.
use Rattle.std.specs.Prelude.{◌≡◌, ℕ, zero, suc, ◌+◌, ◌-◌, ◌≤◌, Bool, List, [], ◌∷◌, ◌++◌, length, Some, option_map, unwrap_or}
use Rattle.std.specs.List.{range_with_len}
use Rattle.flow_orders.specs.Walks.{first_that, walk_end, AreSettled}

-- the order in which n assets are visited from one of them on: next, .., n - 1, 0, .., next - 1
abbrev pub visits : ℕ → ℕ → List ℕ
visits n next = range_with_len next (n - next) ++ range_with_len 0 next

module _ {P : Type 0} (n : ℕ) (unsettled : P → ℕ → Bool) (move : P → ℕ → P) where
  -- the walk in turn of at most `budget` moves: each moves the first unsettled asset from `next` on, and the move after it looks from the
  -- asset after that one on; where all assets are settled it ends
  abbrev pub walk_in_turn : (budget next : ℕ) → P → List ℕ
  walk_in_turn zero next p = []
  walk_in_turn (suc budget) next p = unwrap_or (option_map (λ a. a ∷ walk_in_turn budget (a + 1) (move p a)) (first_that (unsettled p) (visits n next))) []

  -- a walk in turn from `next` on: its first asset is the first unsettled one from `next` on, and each later asset the first unsettled one
  -- after the asset moved just before
  abbrev pub IsInTurnFrom : ℕ → P → List ℕ → Type 0
  IsInTurnFrom next p [] = Unit {0}
  IsInTurnFrom next p (a ∷ walk) = (first_that (unsettled p) (visits n next) ≡ Some a) × IsInTurnFrom (a + 1) (move p a) walk

  -- a walk in turn begins at the lowest asset that is unsettled
  abbrev pub IsInTurn : P → List ℕ → Type 0
  IsInTurn p walk = IsInTurnFrom 0 p walk

  -- all assets are settled at the end of a walk
  abbrev pub Settles : P → List ℕ → Type 0
  Settles p walk = AreSettled n unsettled (walk_end move p walk)

  -- the shortest walk in turn at whose end all assets are settled, if it has at most `budget` moves
  pub record IsCanonicalWalk (p : P) (budget : ℕ) (walk : List ℕ) : Type 0 where
    pub in_turn : IsInTurn p walk
    pub settles : Settles p walk
    pub shortest : (other : List ℕ) → IsInTurn p other → Settles p other → length walk ≤ length other
    pub within : length walk ≤ budget

  -- the prices at which a batch clears: those at the end of the shortest walk
  abbrev pub AreCanonicalPrices : P → ℕ → P → Type 0
  AreCanonicalPrices p budget end = (walk : List ℕ) × IsCanonicalWalk p budget walk × (end ≡ walk_end move p walk)

  -- the trace of a skip, if there are no such prices: the walk in turn of exactly `budget` moves
  pub record IsCanonicalTrace (p : P) (budget : ℕ) (walk : List ℕ) : Type 0 where
    pub in_turn : IsInTurn p walk
    pub whole : length walk ≡ budget
    pub none : (end : P) → ¬ AreCanonicalPrices p budget end
