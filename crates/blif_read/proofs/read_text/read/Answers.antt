use Rattle.blif_read.proofs.SizeLemmas.{denotes_small, denotes_few, denotes_short}
use Rattle.blif_read.proofs.TextLemmas.{all_read, denoted_read, one_reading, refused_read}
use Rattle.blif_read.proofs.CleanLemmas.{denotes_clean}
use Rattle.blif_read.proofs.FormedLemmas.{denotes_formed}
use Rattle.blif_read.proofs.read_text.read.Goals as goal

pub returns : goal.returns
returns c =
    let bytes = c.args.text.now in
    let answer = c.read_once.result in
    let said = c.read_once.ensures in
    record {
      denoted = all_read bytes answer said (λ library d. d);
      complete = denoted_read bytes answer said;
      fault = refused_read bytes answer said;
      one_reading = one_reading bytes;
      well_formed = all_read bytes answer said (denotes_formed bytes);
      clean = all_read bytes answer said (denotes_clean bytes);
      small = all_read bytes answer said (denotes_small bytes);
      few = all_read bytes answer said (λ library. denotes_few bytes library c.requires);
      short = all_read bytes answer said (λ library. denotes_short bytes library c.requires);
      always_well_formed = denotes_formed bytes;
      always_clean = denotes_clean bytes;
      always_small = denotes_small bytes;
      always_few = λ library. denotes_few bytes library c.requires;
      always_short = λ library. denotes_short bytes library c.requires;
    }
