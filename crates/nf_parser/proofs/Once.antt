-- Any tokens are read as one script at most.
use Rattle.std.proofs.Common.{◌≡◌, suc, Bool, true, List, [], refl, sym, subst}
use Rattle.nf_token.specs.declared.token.Lexeme.{Lexeme}
use Rattle.nf_grammar.specs.Gram.{many}
use Rattle.nf_grammar.specs.Reads.{Reads, reads_token, reads_gives, reads_bind, reads_left, reads_right, reads_where, reads_end, reads_more, reads_rule}
use Rattle.nf_ast.specs.Tree.{Tree}
use Rattle.nf_exprs.specs.Level.{Gram}
use Rattle.nf_exprs.specs.Rules.{rules}
use Rattle.nf_parser.specs.Spells.{Whole, Spells}
use Rattle.nf_parser.proofs.Det.{Det, det_bind, det_either, det_where, det_many, det_rule, always, follow}
use Rattle.nf_parser.proofs.Decisions.{det_rules}

once : {g : Gram} {ts r : List Lexeme} {v : Tree} → Reads rules g ts v r → (f : List Lexeme → Bool) (s : List Lexeme) (w : Tree) → Det f g → Reads rules g ts w s → f r ≡ true → f s ≡ true → (v ≡ w) × (r ≡ s)
once (reads_token a) f s w d (reads_token b) e h = (cc, refl)
once reads_gives f s w d reads_gives e h = (refl, refl)
once (reads_bind {k = c} {mid = mid} {rest = r} {a = a} {b = v} x y) f s w (det_bind {h = q} d k n) (reads_bind {mid = nid} {a = b} z u) e h =
    let i = once x q nid b d z (n a mid v r y e) (n b nid w s u h) in
    once y f s w (k a) (subst (λ j. Reads rules (c j) mid w s) (sym i.0) (subst (λ j. Reads rules (c b) j w s) (sym i.1) u)) e h
once (reads_left x) f s w (det_either d c n) (reads_left y) e h = once x f s w d y e h
once (reads_right x) f s w (det_either d c n) (reads_right y) e h = once x f s w c y e h
once (reads_left x) f s w (det_either d c n) (reads_right y) e h = absurd (n _ _ _ _ _ x y e h)
once (reads_right x) f s w (det_either d c n) (reads_left y) e h = absurd (n _ _ _ _ _ y x h e)
once (reads_where a x) f s w (det_where d) (reads_where b y) e h = once x f s w d y e h
once (reads_end a) f s w (det_many d n) (reads_end b) e h = (refl, refl)
once (reads_end a) f s w (det_many d n) (reads_more x y) e h = absurd (n _ _ _ _ _ _ _ a x y h)
once (reads_more x y) f s w (det_many d n) (reads_end a) e h = absurd (n _ _ _ _ _ _ _ a x y e)
once (reads_more {c = c} {f = q} {n = j} {b = a} {mid = mid} x y) f s w (det_many d n) (reads_more {b = b} {mid = nid} z u) e h =
    let k = once x always nid b (d _ _) z refl refl in
    once y f s w (det_many d n) (subst (λ l. Reads rules (many c q (suc j) l) mid w s) (sym k.0) (subst (λ l. Reads rules (many c q (suc j) b) l w s) (sym k.1) u)) e h
once (reads_rule {l = l} x) f s w (det_rule n) (reads_rule y) e h = once x (follow l) s w (det_rules l) y (n _ e) (n _ h)

pub one_whole : (ts : List Lexeme) (v w : Tree) → Whole ts v → Whole ts w → v ≡ w
one_whole ts v w a b = (once a always [] w (det_rule (λ ts e. refl)) b refl refl).0

pub one_tree : (ts : List Lexeme) (v w : Tree) → Spells ts v → Spells ts w → v ≡ w
one_tree ts v w a b = one_whole ts v w a.whole b.whole
