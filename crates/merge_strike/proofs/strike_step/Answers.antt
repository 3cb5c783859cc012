-- `merge_strike::strike_step`: both upper chains are moved on to the lower point's docket, and the point goes where one of them strikes it there.
use Rattle.merge_strike.proofs.Strikes.{lower_in_table, points_walk, ranges_walk, points_asked, ranges_asked, strikes}
use Rattle.merge_strike.proofs.strike_step.Goals as goal

pub lo_of-key-requires : goal.lo_of-key-requires
lo_of-key-requires c =
    lower_in_table _ _ _ c.requires.exists.has

pub seek-points-requires : goal.seek-points-requires
seek-points-requires c =
    points_walk _ _ _ c.requires.exists.has

pub advance-ranges-requires : goal.advance-ranges-requires
advance-ranges-requires c =
    ranges_walk _ _ _ c.requires.exists.has

pub stamp_of-stamp-requires : goal.stamp_of-stamp-requires
stamp_of-stamp-requires c =
    lower_in_table _ _ _ c.requires.exists.has

pub is_struck-goes-requires : goal.is_struck-goes-requires
is_struck-goes-requires c =
    let w = c.requires.exists.has in
    record {
      ahead = points_asked _ _ _ w _ _ c.lo_of-key.ensures c.seek-points.ensures;
      front_ordered = ranges_asked _ _ _ w _ _ c.lo_of-key.ensures c.seek-points.ensures _ c.advance-ranges.ensures;
    }

pub returns : goal.returns
returns c =
    λ g w. strikes g _ _ w _ _ c.lo_of-key.ensures c.seek-points.ensures _ c.advance-ranges.ensures c.requires.at_nonzero _ c.stamp_of-stamp.ensures _ _ _
    c.is_struck-goes.ensures c.sift.ensures
