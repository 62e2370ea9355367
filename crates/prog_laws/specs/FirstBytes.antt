-- The first bytes of four generated programs, computed by a second program. They fix the drawn constants, registers
-- and addresses, which the theorems on runs leave open.
use Rattle.std.specs.Prelude.{ℕ, List, [], ◌∷◌, ◌++◌, replicate}

-- cmovle %r8, %rdx; then the halt, and zeros
abbrev pub bytes_of_1 : List ℕ
bytes_of_1 = 33 ∷ 130 ∷ replicate 16 0

-- mrmovq 0x570(%r14), %rsp; cmovl %r9, %rax; halt
abbrev pub bytes_of_2 : List ℕ
bytes_of_2 = 80 ∷ 78 ∷ 112 ∷ 5 ∷ 0 ∷ 0 ∷ 0 ∷ 0 ∷ 0 ∷ 0 ∷ 34 ∷ 144 ∷ 0 ∷ []

-- mrmovq 0x528(%r14), %rsp; xorq %rbp, %rbx; andq %rdx, %rcx; irmovq $0x5ca75f54, %rdi; rmmovq %rbx, 0x320(%r14); halt
abbrev pub bytes_of_5 : List ℕ
bytes_of_5 =
    80 ∷ 78 ∷ 40 ∷ 5 ∷ 0 ∷ 0 ∷ 0 ∷ 0 ∷ 0 ∷ 0 ∷ 99 ∷ 83 ∷ 98 ∷ 33 ∷ 48 ∷ 247 ∷ 84 ∷ 95 ∷ 167 ∷ 92 ∷ 0 ∷ 0 ∷ 0 ∷ 0 ∷ 64 ∷ 62 ∷ 32 ∷ 3 ∷ 0 ∷ 0 ∷ 0 ∷ 0 ∷ 0 ∷ 0 ∷ 0 ∷ []

-- cmovne %r9, %rcx; xorq %rax, %rax; andq %r13, %rbx; cmovge %rbx, %r8; rmmovq %r9, 0x1b0(%r14); jl 0x1b; andq %rsp, %rcx; halt
abbrev pub bytes_of_7 : List ℕ
bytes_of_7 =
    36 ∷ 145 ∷ 99 ∷ 0 ∷ 98 ∷ 219 ∷ 37 ∷ 56 ∷ 64 ∷ 158 ∷ 176 ∷ 1 ∷ 0 ∷ 0 ∷ 0 ∷ 0 ∷ 0 ∷ 0 ∷ 114 ∷ 27 ∷ 0 ∷ 0 ∷ 0 ∷ 0 ∷ 0 ∷ 0 ∷ 0 ∷ 98 ∷ 65 ∷ 0 ∷ []
