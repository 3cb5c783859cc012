-- A change of tags by g and of tallies by f, carried through records, levels, states and calls.
use Rattle.std.specs.Prelude.{map}
use Rattle.model.specs.Records.{Entry, value, tombstone, Point, Range, Level, State}
use Rattle.model.specs.Steps.{Work, Write, put, delete, delete_range}
use Rattle.model.specs.Lookup.{Found, absent, found}
use Rattle.model.specs.Calls.{Op, written, flush, tick, Call, Outcome}

module _ {A B : Type 0} (f : A → B) where
  abbrev pub map_entry : Entry A → Entry B
  map_entry (value a) = value (f a)
  map_entry tombstone = tombstone

  abbrev pub map_found : Found A → Found B
  map_found absent = absent
  map_found (found a t) = found (f a) t

  abbrev pub map_write : Write A → Write B
  map_write (put k a) = put k (f a)
  map_write (delete k) = delete k
  map_write (delete_range lo hi date) = delete_range lo hi date

  abbrev pub map_op : Op A → Op B
  map_op (written w) = written (map_write w)
  map_op flush = flush
  map_op tick = tick

  abbrev pub map_call : Call A → Call B
  map_call c = record { clock = c.clock; op = map_op c.op }

module _ {S T A B : Type 0} (g : S → T) (f : A → B) where
  abbrev pub map_point : Point S A → Point T B
  map_point p = record { slot = g p.slot; key = p.key; entry = map_entry f p.entry; stamp = p.stamp }

  abbrev pub map_range : Range S → Range T
  map_range r = record { slot = g r.slot; lo = r.lo; hi = r.hi; date = r.date; stamp = r.stamp }

  abbrev pub map_level : Level S A → Level T B
  map_level l = record { points = map map_point l.points; ranges = map map_range l.ranges; owed = l.owed }

  abbrev pub map_state : State S A → State T B
  map_state s = record
      { settings = s.settings; clock = s.clock; free = map g s.free; levels = map map_level s.levels }

  abbrev pub map_work : Work S A → Work T B
  map_work w = record { state = map_state w.state; merges = w.merges }

  abbrev pub map_outcome : Outcome S A → Outcome T B
  map_outcome r = record { state = map_state r.state; answer = r.answer }
