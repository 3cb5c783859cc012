-- What this turn wrote follows what was written before.
use Rattle.std.proofs.Common.{◌≡◌, ◌+◌, ◌-◌, ◌++◌, rules, length, take, drop, subst, sym, ap, ◌∙◌, take-add}
use Rattle.std.proofs.lemmas.List.{take_rest}
use Rattle.std.proofs.KnownBytes.{Appends-trans}
use Rattle.std.specs.Io.KnownBytes.{Appends}
use Rattle.run_script.proofs.retry.write_all.Goals as goal

pub loop-done-preserved : goal.loop-done-preserved
loop-done-preserved g c =
    let bytes = c.args.bytes.now in
    let done = c.loop-done.done in
    let more = c.write_some-more.result in
    let joined : take done bytes ++ take more (take (length bytes - done) (drop done bytes)) ≡ take (done + more) bytes =
    ap (λ rest. take done bytes ++ take more rest) (take_rest bytes done) ∙ sym (take-add done more bytes) in
    (search rules, subst (Appends _ _) joined (Appends-trans _ _ _ _ _ c.loop-done.invariant.1 c.write_some-more.ensures.bytes))
