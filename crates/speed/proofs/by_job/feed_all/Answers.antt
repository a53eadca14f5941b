use Rattle.std.proofs.Common.{rules}
use Rattle.speed.proofs.Feeding.{going_starts, going_more, job_ends, memory_ends}
use Rattle.speed.proofs.by_job.feed_all.Goals as goal

pub loop-bytes-init : goal.loop-bytes-init
loop-bytes-init g c = record {
  can = search rules;
  finite = tt;
  going = going_starts _ _ _ _ _ (search rules) c.requires;
}

pub loop-bytes-preserved : goal.loop-bytes-preserved
loop-bytes-preserved g c =
    let fed = c.feed_burst.ensures in
    record {
      can = search rules;
      finite = tt;
      going = going_more c.loop-bytes.invariant.going c.in-Some.bytes.now _ _ _ c.in-Some.ensures.steps.1.0 fed.job fed.memory fed.fits;
    }

pub returns : goal.returns
returns g c =
    let none = c.in-None.ensures.steps.1.0 in
    record { job = job_ends c.loop-bytes.invariant.going none; memory = memory_ends c.loop-bytes.invariant.going none }
