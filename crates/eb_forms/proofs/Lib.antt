mod JudgedRows
