-- Cited by private functions alone: job_of, make_workers, run, look_again and 1 more.
-- What a call may be asked for.
use Rattle.std.specs.Prelude.{◌≤◌}
use Rattle.reorganise_workers.specs.declared.job.Job.{Job}

-- a limit from 1 to 1,000, 1 to 1,000,000 tries, and no more pieces than a reorganisation has
abbrev pub IsJob : Job → Type 0
IsJob job = (1 ≤ job.limit) × (job.limit ≤ 1000) × (1 ≤ job.tries) × (job.tries ≤ 1000000) × (job.pieces ≤ 64)
