-- Nodes whose children are named anew, twice, or in two ways.
use Rattle.std.proofs.Common.{◌≡◌, List, [], ◌∷◌, map, refl, ap, ◌∙◌}
use Rattle.std.specs.List.{Contains}
use Rattle.group_history.specs.declared.nodes.Chunk.TheVariants.{Leaf, Inner}
use Rattle.group_history.specs.declared.nodes.CommitKind.{CommitKind}
use Rattle.group_history.specs.declared.nodes.CommitKind.TheVariants.{Snapshot, Over}
use Rattle.group_history.specs.declared.nodes.Node.{Node}
use Rattle.group_history.specs.declared.nodes.Node.TheVariants as node
use Rattle.group_history.specs.Map.{Bytes}
use Rattle.group_history.specs.Naming.{children, commits_named, renamed, renamed_kind}
use Rattle.group_history.specs.Rows.{values_of}
use Rattle.group_history.proofs.Lists.{first_here, later_here}

abbrev kids_by : {A B : Type 0} → (A → B) → List (Bytes × A) → List (Bytes × B)
kids_by f kids = map (λ e. (e.0, f e.1)) kids

-- naming anew twice is naming anew once

kids-twice : {A B C : Type 0} (f : A → B) (g : B → C) (kids : List (Bytes × A))
    → kids_by g (kids_by f kids) ≡ kids_by (λ a. g (f a)) kids
kids-twice f g [] = refl
kids-twice f g (k ∷ ks) = ap (λ w. (k.0, g (f k.1)) ∷ w) (kids-twice f g ks)

kind-twice : {A B C : Type 0} (f : A → B) (g : B → C) (k : CommitKind A)
    → renamed_kind g (renamed_kind f k) ≡ renamed_kind (λ a. g (f a)) k
kind-twice f g (Snapshot s) = refl
kind-twice f g (Over o) = refl

pub renamed-renamed : {A B C : Type 0} (f : A → B) (g : B → C) (n : Node A)
    → renamed g (renamed f n) ≡ renamed (λ a. g (f a)) n
renamed-renamed f g (node.Chunk (Leaf rows)) = refl
renamed-renamed f g (node.Chunk (Inner kids)) = ap (λ w. node.Chunk (Inner w)) (kids-twice f g kids)
renamed-renamed {C} f g (node.Commit c) = ap (λ k. node.Commit (record { root = g (f c.root); kind = k }))
    (kind-twice f g c.kind)

-- two names that agree on a node's children name it the same

abbrev Agree : {A B : Type 0} → (A → B) → (A → B) → List A → Type 0
Agree {A} f g xs = (a : A) → Contains xs a → f a ≡ g a

kids-same : {A B : Type 0} (f g : A → B) (kids : List (Bytes × A)) → Agree f g (values_of kids)
    → kids_by f kids ≡ kids_by g kids
kids-same f g [] same = refl
kids-same f g (k ∷ ks) same =
    ap (λ b. (k.0, b) ∷ kids_by f ks) (same k.1 (first_here k.1 (values_of ks))) ∙ ap (λ w. (k.0, g k.1) ∷ w)
    (kids-same f g ks (λ a h. same a (later_here k.1 (values_of ks) a h)))

kind-same : {A B : Type 0} (f g : A → B) (k : CommitKind A) → Agree f g (commits_named k)
    → renamed_kind f k ≡ renamed_kind g k
kind-same f g (Snapshot s) same = refl
kind-same f g (Over o) same =
    let rest = o.snapshot ∷ [] in
    ap (λ b. Over (record { basis = b; snapshot = f o.snapshot; step = o.step; told = o.told }))
    (same o.basis (first_here o.basis rest))
    ∙ ap (λ s. Over (record { basis = g o.basis; snapshot = s; step = o.step; told = o.told }))
    (same o.snapshot (later_here o.basis rest o.snapshot (first_here o.snapshot [])))

pub renamed-same : {A B : Type 0} (f g : A → B) (n : Node A) → Agree f g (children n) → renamed f n ≡ renamed g n
renamed-same f g (node.Chunk (Leaf rows)) same = refl
renamed-same f g (node.Chunk (Inner kids)) same = ap (λ w. node.Chunk (Inner w)) (kids-same f g kids same)
renamed-same f g (node.Commit c) same =
    ap (λ r. node.Commit (record { root = r; kind = renamed_kind f c.kind }))
    (same c.root (first_here c.root (commits_named c.kind)))
    ∙ ap (λ k. node.Commit (record { root = g c.root; kind = k }))
    (kind-same f g c.kind (λ a h. same a (later_here c.root (commits_named c.kind) a h)))
