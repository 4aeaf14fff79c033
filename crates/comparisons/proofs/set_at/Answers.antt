-- `comparisons::set_at` meets its contract: it reads eight words, all of them inside the bytes.
use Rattle.comparisons.proofs.set_at.Goals as goal

pub returns : goal.returns
returns c = tt
