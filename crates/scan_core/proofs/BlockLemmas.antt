-- One more block of hits, and all of them.
use Rattle.std.proofs.Common.{◌≡◌, ◌≢◌, ℕ, zero, suc, ◌<◌, ◌≤◌, List, [], ◌∷◌, ◌++◌, length, map, take, drop, refl, sym, ap, ◌∙◌, subst, append_assoc, arith}
use Rattle.std.proofs.lemmas.List.{drop_at, length-append, length-drop, map-append, take_at}
use Rattle.scan_wire.specs.Messages.{Hits, reply_parts}
use Rattle.scan_wire.specs.declared.message.Reply.{Reply}
use Rattle.scan_core.specs.Blocks.{AreBlocks, AreFull, joined}
use Rattle.scan_core.specs.Sessions.{replies_of}

-- one reply more
pub replies_push : (old new : List Reply) (reply : Reply) → new ≡ old ++ reply ∷ [] → replies_of new ≡ replies_of old ++ reply_parts reply ∷ []
replies_push old new reply grown = ap replies_of grown ∙ map-append reply_parts old (reply ∷ [])

-- the first block of the rest, added after the others
pub blocks_replied : (stream : ℕ) (first now : List Reply) (next : List Reply) (done : List (List (ℕ × ℕ))) (block : List (ℕ × ℕ)) (reply : Reply) → replies_of now ≡ replies_of first ++ map (Hits stream) done → next ≡ now ++ reply ∷ [] → reply_parts reply ≡ Hits stream block → replies_of next ≡ replies_of first ++ map (Hits stream) (done ++ block ∷ [])
blocks_replied stream first now next done block reply replied grown is =
    replies_push now next reply grown
    ∙ ap (λ rs. rs ++ reply_parts reply ∷ []) replied
    ∙ ap (λ r. (replies_of first ++ map (Hits stream) done) ++ r ∷ []) is
    ∙ append_assoc (replies_of first) (map (Hits stream) done) (Hits stream block ∷ [])
    ∙ ap (λ rs. replies_of first ++ rs) (sym (map-append (Hits stream) done (block ∷ [])))

-- with the blocks after it, it is the blocks of the earlier rest
pub blocks_go_on : (most : ℕ) (all rest others block : List (ℕ × ℕ)) (done : List (List (ℕ × ℕ))) → rest ≢ [] → block ≡ take most rest → others ≡ drop most rest → ((more : List (List (ℕ × ℕ))) → AreBlocks most rest more → AreBlocks most all (done ++ more)) → (more : List (List (ℕ × ℕ))) → AreBlocks most others more → AreBlocks most all ((done ++ block ∷ []) ++ more)
blocks_go_on most all rest others block done some first after goes more cut =
    subst (AreBlocks most all) (sym (append_assoc done (block ∷ []) more))
    (goes (block ∷ more) (some, first, subst (λ hs. AreBlocks most hs more) after cut))

-- full blocks, and then the blocks of the rest
pub blocks_after : {X : Type 0} (most : ℕ) (full blocks : List (List X)) (rest : List X) → 0 < most → AreFull most full → AreBlocks most rest blocks → AreBlocks most (joined full ++ rest) (full ++ blocks)
blocks_after most [] blocks rest some all cut = cut
blocks_after {X} most (block ∷ full) blocks rest some all cut =
    let text : List X = block ++ (joined full ++ rest) in
    let whole : joined (block ∷ full) ++ rest ≡ text = append_assoc block (joined full) rest in
    let prefix : take most text ≡ block = ap (λ n. take n text) (sym all.0) ∙ take_at block (joined full ++ rest) (length block) refl in
    let back : drop most text ≡ joined full ++ rest = ap (λ n. drop n text) (sym all.0) ∙ drop_at block (joined full ++ rest) (length block) refl in
    let any : text ≢ [] = λ e. absurd (omega (arith, some, all.0, ap length e, length-append block (joined full ++ rest))) in
    subst (λ xs. AreBlocks most xs (block ∷ full ++ blocks)) (sym whole)
    (any, sym prefix, subst (λ xs. AreBlocks most xs (full ++ blocks)) (sym back) (blocks_after most full blocks rest some all.1 cut))

-- a list that is no longer than some number has blocks
blocks_within : {X : Type 0} (most limit : ℕ) (xs : List X) → 0 < most → length xs ≤ limit → (blocks : List (List X)) × AreBlocks most xs blocks
blocks_within most limit [] some short = ([], refl)
blocks_within most zero (x ∷ xs) some short = absurd (omega (arith, short))
blocks_within {X} most (suc limit) (x ∷ xs) some short =
    let others = blocks_within most limit (drop most (x ∷ xs)) some (omega (arith, short, some, length-drop most (x ∷ xs))) in
    (take most (x ∷ xs) ∷ others.0, ((λ e. absurd (omega (arith, ap length e))), refl, others.1))

-- each list has blocks
pub blocks_exist : {X : Type 0} (most : ℕ) (xs : List X) → 0 < most → (blocks : List (List X)) × AreBlocks most xs blocks
blocks_exist most xs some = blocks_within most (length xs) xs some (omega arith)

-- the elements of blocks and then others
pub joined-append : {X : Type 0} (xs ys : List (List X)) → joined (xs ++ ys) ≡ joined xs ++ joined ys
joined-append [] ys = refl
joined-append (x ∷ xs) ys = ap (λ rest. x ++ rest) (joined-append xs ys) ∙ sym (append_assoc x (joined xs) (joined ys))

-- full blocks and then others
pub full-append : {X : Type 0} (most : ℕ) (xs ys : List (List X)) → AreFull most xs → AreFull most ys → AreFull most (xs ++ ys)
full-append most [] ys full more = more
full-append most (x ∷ xs) ys full more = (full.0, full-append most xs ys full.1 more)
