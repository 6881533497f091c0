use Rattle.nib_mask.proofs.PartLemmas.{gives-part, low-keeps}
use Rattle.nib_mask.proofs.masks.Masks.first_eight.Goals as goal

pub returns : goal.returns
returns c = gives-part _ c.args.self.now _ low-keeps (record {
  low_0 = c.low_bytes.ensures;
  low_1 = c.low_bytes-2.ensures;
  low_2 = c.low_bytes-3.ensures;
  high_0 = c.low_bytes-4.ensures;
  high_1 = c.low_bytes-5.ensures;
  high_2 = c.low_bytes-6.ensures;
})
