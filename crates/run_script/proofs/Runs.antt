-- Turns that follow each other are a run.
use mathlib.Core.Path.{◌≡◌, refl, sym, ap, ◌∙◌}
use mathlib.Core.Bool.{Bool, true, false}
use mathlib.Core.List.{List, [], ◌∷◌, ◌++◌}
use Prim.Native.Nat.{ℕ}
use lib.Dec.{eqb}
use lib.ListN.{take}
use Rattle.lists.proofs.Bools.{by_cases, both_false}
use Rattle.script_buffer.specs.Bytes.{Standing}
use Rattle.script_stream.specs.Blocks.{fed, finished, written}
use Rattle.run_script.specs.Turns.{Turn, Run, fed_all}

-- A run that goes on has not met the end of the input.
pub record Going (s s' : Standing) (more : Bool) : Type 0 where
  pub run : Run s s'
  pub goes_on : more ≡ true → run.ended ≡ false

pub begins : (s : Standing) (more : Bool) → Going s s more
unfolding fed_all
begins s more = record { run = record { blocks = []; ended = false; leads = refl }; goes_on = λ _. refl }

fed_all_last : (blocks : List (List ℕ)) (block : List ℕ) (s : Standing) → fed_all (blocks ++ (block ∷ [])) s ≡ written (fed block (fed_all blocks s))
unfolding fed_all
fed_all_last [] block s = refl
fed_all_last (first ∷ blocks) block s = fed_all_last blocks block (written (fed first s))

module _ (input : List ℕ) (s s' s'' : Standing) (more : Bool) (blocks : List (List ℕ)) (here : s' ≡ fed_all blocks s) (turn : Turn input s' s'' more) where
  ends : eqb turn.count 0 ≡ true → Going s s'' more
  ends none = record {
    run = record { blocks = blocks; ended = true; leads = rw none at turn.leads ∙ ap (λ x. written (finished x)) here };
    goes_on = λ on. both_false none (turn.goes_on on);
  }

  feeds : eqb turn.count 0 ≡ false → Going s s'' more
  feeds some =
      let block = take turn.count input in record {
        run = record {
          blocks = blocks ++ (block ∷ []);
          ended = false;
          leads = rw some at turn.leads ∙ ap (λ x. written (fed block x)) here ∙ sym (fed_all_last blocks block s);
        };
        goes_on = λ _. refl;
      }

pub goes_further : {input : List ℕ} {s s' s'' : Standing} {more more' : Bool} → more ≡ true → Going s s' more → Turn input s' s'' more' → Going s s'' more'
goes_further {input} {s} {s'} {s''} {more} {more'} on going turn =
    let here = rw (going.goes_on on) at going.run.leads in
    by_cases (eqb turn.count 0) (ends input s s' s'' more' going.run.blocks here turn) (feeds input s s' s'' more' going.run.blocks here turn)
