-- The definitions computed on worked scripts.
use Rattle.std.specs.Prelude.{◌≡◌, [], ◌∷◌, ◌++◌, codes, refl}
use Rattle.std.specs.Fmt.{digits}
use Rattle.eirene.specs.Scripts.{output_of}

empty_script : output_of [] ≡ []
empty_script = refl

only_fit : output_of (codes "fit\n") ≡ codes "fits glav 0\n"
unfolding digits
only_fit = refl

-- a last line needs no line feed, and a carriage return belongs to the end
unended_fit : output_of (codes "fit" ++ 13 ∷ 10 ∷ codes "fit") ≡ codes "fits glav 0\nfits glav 0\n"
unfolding digits
unended_fit = refl

-- blank lines and comments have no reply
blank_lines : output_of (codes "\n  # put\n\n") ≡ []
blank_lines = refl

one_employee : output_of (codes "source Emp(name,dept)\ntarget Works(name,room)\nnew e1\nput e1 Emp(ann,hr)\nput e1 Works(ann,?b)\nfit\n")
    ≡ codes "ok\nok\nok\nok\nok\nfits glav 1\nEmp(x1,x2) -> exists y1 . Works(x1,y1)\n"
unfolding digits
one_employee = refl

symmetric : output_of (codes "source R(a,b)\ntarget T(a)\nnew e1\nput e1 R(a,b)\nput e1 R(b,a)\nput e1 T(a)\nfit\n")
    ≡ codes "ok\nok\nok\nok\nok\nok\nrefuted e1 e1 a->b b->a\n"
symmetric = refl

foreign_target : output_of (codes "source R(a)\ntarget T(a)\nnew e1\nput e1 R(a)\nput e1 T(zed)\nfit\n") ≡ codes "ok\nok\nok\nok\nok\ndomain e1 zed\n"
foreign_target = refl

empty_source : output_of (codes "target T(a)\nnew e1\nput e1 T(?n)\nfit\n") ≡ codes "ok\nok\nok\nfits glav 1\ntrue -> exists y1 . T(y1)\n"
unfolding digits
empty_source = refl

missing_target : output_of (codes "source R(a)\ntarget T(a)\nnew e1\nput e1 R(a)\nnew e2\nput e2 R(b)\nput e2 T(b)\nfit\n")
    ≡ codes "ok\nok\nok\nok\nok\nok\nok\nrefuted e2 e1 b->a\n"
missing_target = refl

-- refused lines: an unknown relation, another arity, a null in a source, no example, a fact that is there, one that is
-- not, a name that is taken, no form, a line that is not served, and nothing to undo
refusals : output_of (codes "source Emp(name,dept)\nnew e1\nput e1 Emq(ann,hr)\nput e1 Emp(ann)\nput e1 Emp(?x,hr)\nput e2 Emp(ann,hr)\nput e1 Emp(ann,hr)\nput e1 Emp(ann,hr)\ncut e1 Emp(bob,hr)\nnew e1\nput e1\ntries\nundo\nundo\nundo\n")
    ≡ codes "ok\nok\nrefused 3 relation\nrefused 4 arity\nrefused 5 null\nrefused 6 example\nok\nrefused 7 there\nrefused 8 missing\nrefused 2 taken\nrefused 1 line\nrefused 1 line\nok\nok\nrefused 10 nothing\n"
refusals = refl

-- a null that does not fold is a fault of GAV alone, and one that folds onto a fact beside it is none
folds : output_of (codes "source R(a)\ntarget T(a,b)\nnew e1\nput e1 R(ann)\nput e1 T(ann,?n)\nkind gav\nfit\nput e1 T(ann,ann)\nfit\n")
    ≡ codes "ok\nok\nok\nok\nok\nok\nfold e1\nok\nfits gav 1\nR(x1) -> T(x1,x1)\n"
unfolding digits
folds = refl
