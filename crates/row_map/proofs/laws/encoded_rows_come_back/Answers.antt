use Rattle.row_map.proofs.Encoded.{encoded_rows}
use Rattle.row_map.proofs.laws.encoded_rows_come_back.Goals as goal

pub returns : goal.returns
returns c = encoded_rows
