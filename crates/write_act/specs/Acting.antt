-- A write on level L, where no slot is free.
use Rattle.std.specs.Prelude.{◌≡◌, Bool, true, false, List, ◌∷◌, map, ℕ, ◌≤◌}
use Rattle.lists.specs.All.{All, Ascending}
use Rattle.model.specs.declared.Tally.{Tally}
use Rattle.model.specs.Records.{Point, State, is_put, level}
use Rattle.model.specs.Merge.{names, point_before}
use Rattle.model.specs.Steps.{Write, put, delete, delete_range, overwrite, act_deepest}
use Rattle.tables.specs.Placed.{Cell, point_cell, head}
use Rattle.chain_cells.specs.Held.{Held}
use Rattle.merge_levels.specs.Laid.{Store, Laid, at_state}

-- The points of level L, a docket and its new tally, and all that is beside them.
pub record Points : Type 0 where
  pub slots : ℕ
  pub clock : ℕ
  pub free : List ℕ
  pub points : List (Point ℕ Tally)
  pub others : List (List Cell)

pub record PointsHeld (g : Points) (e : List ℕ) (first : ℕ) : Type 0 where
  pub held : Held g.slots g.clock g.free (map point_cell g.points ∷ g.others) e
  pub head_is : first ≡ head (map point_cell g.points)
  pub keys : All (λ p. p.key ≤ 65535) g.points
  pub ascend : Ascending point_before g.points
  pub puts : All (λ p. is_put p.entry ≡ true) g.points

-- "a put changes tally and stamp of its docket"
pub record Overwritten (g : Points) (k : ℕ) (a : Tally) (t : ℕ) (e : List ℕ) (found : Bool) : Type 0 where
  pub held : Held g.slots g.clock g.free (map point_cell (map (overwrite k a t) g.points) ∷ g.others) e
  pub found_is : found ≡ names g.points k

-- Level L has the docket of a put; a delete asks for none.
abbrev pub can_act : Write Tally → State ℕ Tally → Bool
can_act (put k a) s = names (level s.settings.deepest s).points k
can_act (delete k) s = true
can_act (delete_range lo hi date) s = true

pub record Acted (g : Store) (v : Write Tally) (e l e' l' : List ℕ) (done : Bool) : Type 0 where
  pub laid : Laid (at_state g (act_deepest g.time v g.state)) e' l'
  pub done_is : done ≡ can_act v g.state
  pub kept : done ≡ false → (e' ≡ e) × (l' ≡ l)
