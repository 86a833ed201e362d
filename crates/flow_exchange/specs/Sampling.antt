-- `flow sample NUMBER ORDERS`: which arguments ask for it, and what it results in.
use Rattle.std.specs.Prelude.{◌≡◌, ◌<◌, ◌≤◌, ◌^◌, ℕ, List, [], ◌∷◌, codes, decimal}
use Rattle.exit_status.specs.declared.status.Status.{Status}
use Rattle.exit_status.specs.declared.status.Status.TheVariants.{Done}
use Rattle.sample_summary.specs.Summary.{Summarizes, most_sampled}

-- The arguments are `sample` and two numbers in plain decimal digits: one of 64 bits, and 1 to 16,384 orders.
pub record AskSample (words : List (List ℕ)) (number orders : ℕ) : Type 0 where
  pub are : words ≡ codes "sample" ∷ decimal number ∷ decimal orders ∷ []
  pub number_fits : number < 2 ^ 64
  pub some : 1 ≤ orders
  pub few : orders ≤ most_sampled

-- the line on the sample is written, and all is done, whatever the source has
abbrev pub SamplesTo : ℕ → ℕ → Status → List ℕ → Type 0
SamplesTo number orders status text = (status ≡ Done) × Summarizes number orders text
