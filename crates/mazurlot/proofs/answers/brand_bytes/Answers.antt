-- `mazurlot::answers::brand_bytes` meets its contract: four bytes by division spell the number again.
use native.Mathlib.Omega.{arith}
use Rattle.basics.specs.Bytes.{number_from}
use Rattle.mazurlot.proofs.answers.brand_bytes.Goals as goal

pub returns : goal.returns
unfolding number_from
returns c = omega arith
