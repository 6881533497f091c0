-- One more position of each lane is read.
use Rattle.std.proofs.Common.{◌≡◌, ℕ, ◌+◌, ◌*◌, ◌<◌, ◌⊎◌, length, set, ◌∙◌, arith}
use Rattle.std.proofs.lemmas.List.{length-set}
use Rattle.text_automaton.specs.Prefixes.{IsRead}
use Rattle.text_automaton.proofs.ReadLemmas.{AreDone, done_more, read_on, set_more}
use Rattle.text_automaton.proofs.tables.Tables.read_lanes.Goals as goal

pub lanes-preserved : goal.lanes-preserved
lanes-preserved c =
    let before = c.lanes.invariant in
    let t = c.args.self.now in
    let text = c.args.text.now in
    let longest = c.args.longest in
    let start = c.args.start in
    let lane = c.args.lane in
    let few = c.requires.few in
    let at = c.lanes.at in
    let low : at < lane = c.lanes-test.true in
    let first = c.next_state-first.ensures in
    let second = c.next_state-second.ensures in
    let third = c.next_state-third.ensures in
    let fourth = c.next_state-fourth.ensures in
    let one = c.lanes.states in
    let two = set one at c.next_state-first.result in
    let three = set two (lane + at) c.next_state-second.result in
    let four = set three (2 * lane + at) c.next_state-third.result in
    let long_two : length two ≡ 4128 = length-set one at c.next_state-first.result ∙ before.room in
    let long_three : length three ≡ 4128 = length-set two (lane + at) c.next_state-second.result ∙ long_two in
    let long_four : length four ≡ 4128 = length-set three (2 * lane + at) c.next_state-third.result ∙ long_three in
    let Read = λ (k s : ℕ). IsRead t text longest (start + k + 1) s in
    record {
      room = length-set four (3 * lane + at) c.next_state-fourth.result ∙ long_four;
      first = read_on t text longest (start + at) (start + at) (start + (at + 1)) c.lanes.first c.next_state-first.result before.first (omega arith) (omega arith) first.value first.state;
      second = read_on t text longest (start + lane + at) (start + lane + at) (start + lane + (at + 1)) c.lanes.second c.next_state-second.result before.second (omega arith) (omega arith) second.value second.state;
      third = read_on t text longest (start + 2 * lane + at) (start + 2 * lane + at) (start + 2 * lane + (at + 1)) c.lanes.third c.next_state-third.result before.third (omega arith) (omega arith) third.value third.state;
      fourth = read_on t text longest (start + 3 * lane + at) (start + 3 * lane + at) (start + 3 * lane + (at + 1)) c.lanes.fourth c.next_state-fourth.result before.fourth (omega arith) (omega arith) fourth.value fourth.state;
      states = λ k done. set_more Read (λ k. ((AreDone lane at k ⊎ (k ≡ at)) ⊎ (k ≡ lane + at)) ⊎ (k ≡ 2 * lane + at)) four (3 * lane + at) c.next_state-fourth.result (omega (arith, low, few, long_four))
          (set_more Read (λ k. (AreDone lane at k ⊎ (k ≡ at)) ⊎ (k ≡ lane + at)) three (2 * lane + at) c.next_state-third.result (omega (arith, low, few, long_three))
          (set_more Read (λ k. AreDone lane at k ⊎ (k ≡ at)) two (lane + at) c.next_state-second.result (omega (arith, low, few, long_two))
          (set_more Read (AreDone lane at) one at c.next_state-first.result (omega (arith, low, few, before.room)) before.states
          (read_on t text longest (start + at) (start + at) (start + at + 1) c.lanes.first c.next_state-first.result before.first (omega arith) (omega arith) first.value first.state))
          (read_on t text longest (start + lane + at) (start + lane + at) (start + (lane + at) + 1) c.lanes.second c.next_state-second.result before.second (omega arith) (omega arith) second.value second.state))
          (read_on t text longest (start + 2 * lane + at) (start + 2 * lane + at) (start + (2 * lane + at) + 1) c.lanes.third c.next_state-third.result before.third (omega arith) (omega arith) third.value third.state))
          (read_on t text longest (start + 3 * lane + at) (start + 3 * lane + at) (start + (3 * lane + at) + 1) c.lanes.fourth c.next_state-fourth.result before.fourth (omega arith) (omega arith) fourth.value fourth.state)
          k (done_more lane at k done);
    }
