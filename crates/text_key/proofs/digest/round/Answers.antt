use Rattle.text_key.specs.Digest.{rounded}
use Rattle.text_key.proofs.digest.round.Goals as goal

pub returns : goal.returns
unfolding rounded
returns c = simp (c.rotate_left-6.ensures, c.rotate_left-5.ensures, c.rotate_left-4.ensures, c.rotate_left-3.ensures, c.rotate_left-2.ensures, c.rotate_left.ensures)
