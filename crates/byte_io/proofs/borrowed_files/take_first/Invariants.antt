use Rattle.std.proofs.Common.{◌≡◌, ◌++◌, map, take, drop}
use Rattle.byte_io.specs.Sources.{source_of, without_first}
use Rattle.byte_io.proofs.borrowed_files.take_first.Given as goal

-- none of the entries so far has the name
abbrev pub invariant-loop-place : goal.invariant-loop-place
invariant-loop-place g l = record {
  same : l.entries.items ≡ l.fn.entries.items;
  first : source_of l.name (map (λ e. (e.0.now, e.1)) l.entries.items) ≡ source_of l.name (map (λ e. (e.0.now, e.1)) (drop l.place l.entries.items));
  others : without_first l.name (map (λ e. (e.0.now, e.1)) l.entries.items)
      ≡ map (λ e. (e.0.now, e.1)) (take l.place l.entries.items) ++ without_first l.name (map (λ e. (e.0.now, e.1)) (drop l.place l.entries.items));
}
