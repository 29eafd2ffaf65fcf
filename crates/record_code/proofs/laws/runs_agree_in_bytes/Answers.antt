use Rattle.record_code.proofs.Runs.{runs_agree_in_bytes as agree, records_are_read, opens_stores}
use Rattle.record_code.proofs.Whole.{runs_stay_open_in_bytes}
use Rattle.record_code.proofs.laws.runs_agree_in_bytes.Goals as goal

pub returns-clause-agree : goal.returns-clause-agree
returns-clause-agree c = agree

pub returns-clause-read : goal.returns-clause-read
returns-clause-read c = records_are_read

pub returns-clause-opens : goal.returns-clause-opens
returns-clause-opens c = opens_stores

pub returns-clause-stay_open : goal.returns-clause-stay_open
returns-clause-stay_open c = runs_stay_open_in_bytes
