use Rattle.nib_mask.proofs.PartLemmas.{gives-part, high-keeps}
use Rattle.nib_mask.proofs.masks.Masks.last_eight.Goals as goal

pub returns : goal.returns
returns c = gives-part _ c.args.self.now _ high-keeps (record {
  low_0 = c.high_bytes.ensures;
  low_1 = c.high_bytes-2.ensures;
  low_2 = c.high_bytes-3.ensures;
  high_0 = c.high_bytes-4.ensures;
  high_1 = c.high_bytes-5.ensures;
  high_2 = c.high_bytes-6.ensures;
})
