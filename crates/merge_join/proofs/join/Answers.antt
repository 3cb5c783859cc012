-- `merge_join::join`: above the deepest level the merged level is the answer, and at the deepest the settled one.
use Rattle.merge_join.specs.Joining.{merging}
use Rattle.merge_join.proofs.Settling.{joins_above, joins_deepest}
use Rattle.merge_join.proofs.join.Goals as goal

pub settle-requires : goal.settle-requires
settle-requires c =
    record { value = merging c.requires.value; has = c.merge-merged.ensures _ c.requires.has }

pub returns-then-deepest : goal.returns-then-deepest
returns-then-deepest c =
    λ g h. rw c.if-deepest.true (joins_deepest (c.settle.ensures _ (c.merge-merged.ensures g h)))

pub returns-else-deepest : goal.returns-else-deepest
returns-else-deepest c =
    λ g h. rw c.if-deepest.false (joins_above (c.merge-merged.ensures g h))
