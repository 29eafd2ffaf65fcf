use Rattle.schema_version.proofs.Served as served
use Rattle.schema_version.proofs.laws.indexed_columns_stay.Goals as goal

pub returns : goal.returns
returns c = served.indexed_columns_stay
