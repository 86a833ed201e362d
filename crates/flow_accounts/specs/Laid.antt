-- How the lines are laid in one block.
use Rattle.std.specs.Prelude.{◌≡◌, ℕ, ◌*◌, ◌/◌, ◌≤◌, List, [], ◌∷◌, map, take, drop, min, vec_len, vec_capacity}
use Rattle.flow_accounts.specs.declared.lines.Lines.TheInside.{Inside}
use Rattle.flow_accounts.specs.Lawful.{most_assets}
use Rattle.flow_accounts.specs.Lines.{Line, Table, laid, HasWidth}

module _ {M U : Type 0} where
  -- the lines with this money whose units are in the block, each in so many places, of which the first `assets` are in use
  abbrev pub lines_of : ℕ → ℕ → List M → List U → List (Line M U)
  lines_of assets places [] units = []
  lines_of assets places (m ∷ money) units = record { money = m; units = take assets units } ∷ lines_of assets places money (drop places units)

  -- the lines that the fields represent
  abbrev pub lines_in : Inside M U → List (Line M U)
  lines_in t = lines_of t.assets t.places t.money.items t.units.items

  -- the table that the fields represent
  abbrev pub table_in : Inside M U → Table M U
  table_in t = record { assets = t.assets; lines = lines_in t; none = t.none; room = min (vec_capacity t.money) (vec_capacity t.units / most_assets) }

  -- each line has a place for each asset, the places that aren't in use hold `none`, and there is room for the most places
  pub record AreLaid (t : Inside M U) : Type 0 where
    pub enough : t.assets ≤ t.places
    pub few : t.places ≤ most_assets
    pub widths : HasWidth t.assets (map (λ (l : Line M U). l.units) (lines_in t))
    pub laid : t.units.items ≡ laid t.none t.places (map (λ (l : Line M U). l.units) (lines_in t))
    pub room : vec_len t.money * most_assets ≤ vec_capacity t.units
