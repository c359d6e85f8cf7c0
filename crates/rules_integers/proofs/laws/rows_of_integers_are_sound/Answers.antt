use Rattle.rules_integers.proofs.ArithmeticLaws.{order_left, up_has, up_undefined, up_normal, down_has}
use Rattle.rules_integers.proofs.laws.rows_of_integers_are_sound.Goals as goal

pub returns-clause-at_most : goal.returns-clause-at_most
returns-clause-at_most c = λ s t d m n e h k. order_left s t d m n e h k

pub returns-clause-up : goal.returns-clause-up
returns-clause-up c = λ o d a b m n e f h k. up_has o d a b m n e f h k

pub returns-clause-undefined : goal.returns-clause-undefined
returns-clause-undefined c = λ o a b. up_undefined o a b

pub returns-clause-normal : goal.returns-clause-normal
returns-clause-normal c = λ o d a b. up_normal o d a b

pub returns-clause-down : goal.returns-clause-down
returns-clause-down c = λ o s w p q m n v e f g h j k. down_has o s w p q m n v e f g h j k
