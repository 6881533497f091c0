-- Hits in full replies, and the remaining hits.
use Rattle.std.proofs.Common.{◌≡◌, ◌≢◌, ℕ, ◌<◌, ◌≤◌, List, [], ◌∷◌, ◌++◌, length, map, take, drop, Option, Result, Ok, Err, OnErr, OnOk, refl, sym, ap, ◌∙◌, append_assoc, arith}
use Rattle.std.proofs.lemmas.List.{append-nil, drop_all, length-take, map-append, take-append-drop, take_all}
use Rattle.scan_wire.specs.Frames.{replies_text, reply_text}
use Rattle.scan_wire.specs.Messages.{Fed, Hits, ReplyParts}
use Rattle.scan_wire.specs.declared.message.TheConstants.{MAX_HITS}
use Rattle.scan_serve.specs.Sending.{Sends, SendsLess}
use Rattle.scan_serve.proofs.RunLemmas.{replies_text-append}
use Rattle.scan_serve.proofs.SendLemmas.{after_none, prefix_is, reply_some, sends_is, sends_then, sends_then_prefix}
use Rattle.scan_core.specs.Blocks.{AreBlocks, joined}
use Rattle.scan_core.specs.Steps.{fed_replies}
use Rattle.scan_core.proofs.BlockLemmas.{full-append, joined-append}
use Rattle.scan_run.specs.Feeding.{SendsFull, SendsFullPrefix, last_block}

-- what holds where a call failed
pub on_err : {T E P : Type 0} (r : Result T E) → P → OnErr r P
on_err (Ok x) p = tt
on_err (Err e) p = p

-- what holds where a call succeeded, said of more
pub ok_weaker : {T E P Q : Type 0} (r : Result T E) → (P → Q) → OnOk r P → OnOk r Q
ok_weaker (Ok x) f p = f p
ok_weaker (Err e) f p = tt

-- the text of a reply is the text of a list of it alone
pub one_text : (reply : ReplyParts) → reply_text reply ≡ replies_text (reply ∷ [])
one_text reply = sym (append-nil (reply_text reply))

-- a block after others
sent_more : (stream : ℕ) (blocks : List (List (ℕ × ℕ))) (block : List (ℕ × ℕ)) → replies_text (map (Hits stream) blocks) ++ reply_text (Hits stream block) ≡ replies_text (map (Hits stream) (blocks ++ block ∷ []))
sent_more stream blocks block =
    ap (λ t. replies_text (map (Hits stream) blocks) ++ t) (one_text (Hits stream block))
    ∙ sym (replies_text-append (map (Hits stream) blocks) (Hits stream block ∷ []))
    ∙ ap replies_text (sym (map-append (Hits stream) blocks (block ∷ [])))

-- blocks after others
pub sent_both : (stream : ℕ) (blocks more : List (List (ℕ × ℕ))) → replies_text (map (Hits stream) blocks) ++ replies_text (map (Hits stream) more) ≡ replies_text (map (Hits stream) (blocks ++ more))
sent_both stream blocks more =
    sym (replies_text-append (map (Hits stream) blocks) (map (Hits stream) more))
    ∙ ap replies_text (sym (map-append (Hits stream) blocks more))

-- the elements of blocks, of one more, and others
cut_more : (blocks : List (List (ℕ × ℕ))) (block rest : List (ℕ × ℕ)) → joined blocks ++ (block ++ rest) ≡ joined (blocks ++ block ∷ []) ++ rest
cut_more blocks block rest =
    sym (append_assoc (joined blocks) block rest)
    ∙ ap (λ hs. hs ++ rest) (ap (λ hs. joined blocks ++ hs) (sym (append-nil block)) ∙ sym (joined-append blocks (block ∷ [])))

-- one full reply more
pub sends_full_more : (stream : ℕ) (old now block new : List (ℕ × ℕ)) (u v w : Option (List ℕ)) (a b c : List ℕ) → MAX_HITS ≤ length now → block ≡ take MAX_HITS now → new ≡ drop MAX_HITS now → SendsFull stream old now u v a b → Sends v w b c (reply_text (Hits stream block)) → SendsFull stream old new u w a c
sends_full_more stream old now block new u v w a b c many prefix after sent_full sent =
    let whole : now ≡ block ++ new = sym (take-append-drop MAX_HITS now) ∙ ap (λ hs. hs ++ drop MAX_HITS now) (sym prefix) ∙ ap (λ hs. block ++ hs) (sym after) in
    let size : length block ≡ MAX_HITS = ap length prefix ∙ omega (arith, many, length-take MAX_HITS now) in
    record {
      blocks = sent_full.blocks ++ block ∷ [];
      full = full-append MAX_HITS sent_full.blocks (block ∷ []) sent_full.full (size, tt);
      cut = sent_full.cut ∙ ap (λ hs. joined sent_full.blocks ++ hs) whole ∙ cut_more sent_full.blocks block new;
      sent = sends_is u w a c _ _ (sent_more stream sent_full.blocks block) (sends_then u v w a b c (replies_text (map (Hits stream) sent_full.blocks)) (reply_text (Hits stream block)) sent_full.sent sent);
    }

-- one more full reply, with a prefix of it written
pub sends_full_prefix : (stream : ℕ) (old now block : List (ℕ × ℕ)) (u v w : Option (List ℕ)) (a b : List ℕ) → MAX_HITS ≤ length now → block ≡ take MAX_HITS now → SendsFull stream old now u v a b → SendsLess v w b (reply_text (Hits stream block)) → SendsFullPrefix stream old u w a
sends_full_prefix stream old now block u v w a b many prefix sent_full sent =
    let rest : List (ℕ × ℕ) = drop MAX_HITS now in
    let whole : now ≡ block ++ rest = sym (take-append-drop MAX_HITS now) ∙ ap (λ hs. hs ++ rest) (sym prefix) in
    let size : length block ≡ MAX_HITS = ap length prefix ∙ omega (arith, many, length-take MAX_HITS now) in
    record {
      blocks = sent_full.blocks ++ block ∷ [];
      left = rest;
      full = full-append MAX_HITS sent_full.blocks (block ∷ []) sent_full.full (size, tt);
      cut = sent_full.cut ∙ ap (λ hs. joined sent_full.blocks ++ hs) whole ∙ cut_more sent_full.blocks block rest;
      sent = prefix_is u w a _ _ (sent_more stream sent_full.blocks block) (sends_then_prefix u v w a b (replies_text (map (Hits stream) sent_full.blocks)) (reply_text (Hits stream block)) sent_full.sent sent.prefix);
    }

-- the remaining hits are the last block
pub last_is : (most : ℕ) (hits : List (ℕ × ℕ)) → length hits < most → AreBlocks most hits (last_block hits)
last_is most [] few = refl
last_is most (hit ∷ hits) few =
    ((λ e. absurd (omega (arith, ap length e))), sym (take_all most (hit ∷ hits) (omega (arith, few))), drop_all most (hit ∷ hits) (omega (arith, few)))

-- blocks, and then the place
pub sent_place : (stream : ℕ) (blocks : List (List (ℕ × ℕ))) (place : ℕ) → replies_text (map (Hits stream) blocks) ++ reply_text (Fed stream place) ≡ replies_text (fed_replies stream blocks place)
sent_place stream blocks place =
    ap (λ t. replies_text (map (Hits stream) blocks) ++ t) (one_text (Fed stream place))
    ∙ sym (replies_text-append (map (Hits stream) blocks) (Fed stream place ∷ []))

-- blocks, and then others with the place
pub sent_last : (stream : ℕ) (blocks more : List (List (ℕ × ℕ))) (place : ℕ) → replies_text (map (Hits stream) blocks) ++ replies_text (fed_replies stream more place) ≡ replies_text (fed_replies stream (blocks ++ more) place)
sent_last stream blocks more place =
    sym (replies_text-append (map (Hits stream) blocks) (fed_replies stream more place))
    ∙ ap replies_text (sym (append_assoc (map (Hits stream) blocks) (map (Hits stream) more) (Fed stream place ∷ []))
    ∙ ap (λ rs. rs ++ Fed stream place ∷ []) (sym (map-append (Hits stream) blocks more)))

-- the place is a reply, so there are bytes
pub last_some : (stream : ℕ) (blocks : List (List (ℕ × ℕ))) (place : ℕ) → replies_text (fed_replies stream blocks place) ≢ []
last_some stream blocks place e = reply_some (Fed stream place) (after_none (replies_text (map (Hits stream) blocks)) (reply_text (Fed stream place)) (sent_place stream blocks place ∙ e))
